-- What waits may be committed, at any time; and so a round is of choices that both sides may be committed with.
use Rattle.std.proofs.Common.{◌≡◌, ℕ, zero, suc, ◌<◌, Bool, true, false, cond, ◌&&◌, List, Option, Some, None, Result, Ok, Err, refl, sym, subst, arith}
use Rattle.std.proofs.lemmas.Bool.{and_parts}
use Rattle.std.specs.Prelude.{not, is_some, IfSome}
use Rattle.ps_base.specs.declared.why.Why.{Why}
use Rattle.ps_base.specs.declared.why.Why.TheVariants as whys
use Rattle.ps_lines.specs.declared.command.Command.{Command}
use Rattle.ps_lines.specs.declared.command.Command.TheVariants.{Choose, Undo, Forfeit}
use Rattle.ps_mon.specs.declared.record.Battle.{Battle}
use Rattle.ps_mon.specs.declared.choice.Choice.{Choice}
use Rattle.ps_mon.specs.declared.choice.ChoiceFault.{ChoiceFault}
use Rattle.ps_mon.specs.Choices.{is_asked, IsChoiceOf, fault_of}
use Rattle.ps_mon.specs.Reading.{side_of}
use Rattle.ps_dex.specs.declared.item.Tables.{Tables}
use Rattle.ps_dex.specs.Figures.{figures_of}
use Rattle.ps_choice.specs.Resolved.{meant, judged, settled}
use Rattle.ps_choice.specs.Wants.{Want, want_in}
use Rattle.battle_rounds.specs.declared.bout.Bout.{Bout}
use Rattle.battle_rounds.specs.Bouts.{CanWait, with_waiting, waiting}
use Rattle.battle_rounds.specs.Refusals.{chosen, choice_in, is_stale, with_why}
use Rattle.battle_rounds.specs.Rounds.{is_ready, choice_or_pass, committed, completed, gave_up}
use Rattle.battle_rounds.specs.Fights.{Fight, outcome_in, chose_by}
use Rattle.battle_rounds.proofs.RoundLemmas.{ready_choices}
use Rattle.ps_chat.specs.declared.present.Present.{Present}
use Rattle.ps_room.specs.declared.entry.Entry.{Entry}
use Rattle.ps_room.specs.Records.{Record}
use Rattle.ps_room.specs.Roles.{side_of_member}
use Rattle.ps_room.specs.Rooms.{verdict, after, sender_of, battle_after}
use Rattle.ps_room.proofs.AnswerLemmas.{after_allowed, after_refused}
use Rattle.ps_laws.proofs.PartLemmas.{side_below}

-- ---- a choice that is allowed may wait

of_fault : (b : Battle) (s : ℕ) (choice c : Choice) (fault : Option ChoiceFault) → is_asked b.phase s ≡ true → fault_of b.phase s (side_of b s) choice ≡ fault → with_why (judged choice fault) ≡ Ok c → CanWait b s c
of_fault b s choice c None asked is ok = let same : choice ≡ c = cc in record { asked = asked; legal = rw (← same) is }
of_fault b s choice c (Some fault) asked is ok = absurd cc

of_settled : (b : Battle) (s : ℕ) (r : Result Choice _) (c : Choice) → is_asked b.phase s ≡ true → with_why (settled b.phase s (side_of b s) r) ≡ Ok c → CanWait b s c
of_settled b s (Ok choice) c asked ok = of_fault b s choice c _ asked refl ok
of_settled b s (Err absent) c asked ok = absurd cc

of_want : (b : Battle) (s : ℕ) (dex : Tables) (want : Option Want) (c : Choice) → is_asked b.phase s ≡ true → choice_in b s dex want ≡ Ok c → CanWait b s c
of_want b s dex None c asked ok = absurd cc
of_want b s dex (Some want) c asked ok = of_settled b s (meant b.phase (side_of b s) dex want) c asked ok

of_tests : (b : Battle) (s : ℕ) (dex : Tables) (want : Option Want) (c : Choice) (asked pending stale : Bool) → is_asked b.phase s ≡ asked → cond (not asked) (Err whys.NotYourTurn) (cond pending (Err whys.AlreadyChosen) (cond stale (Err whys.StaleRequest) (choice_in b s dex want))) ≡ Ok c → CanWait b s c
of_tests b s dex want c false pending stale is ok = absurd cc
of_tests b s dex want c true true stale is ok = absurd cc
of_tests b s dex want c true false true is ok = absurd cc
of_tests b s dex want c true false false is ok = of_want b s dex want c is ok

pub chosen_waits : (b : Bout) (s : ℕ) (dex : Tables) (text : List ℕ) (number : Option ℕ) (c : Choice) → chosen b s dex text number ≡ Ok c → CanWait b.battle s c
unfolding chosen
chosen_waits b s dex text number c ok = of_tests b.battle s dex (want_in text) c _ (is_some (waiting b s)) (is_stale b.round number) refl ok

-- ---- what waits

pub record MayWait (b : Bout) : Type 0 where
  pub first : IfSome b.first (CanWait b.battle 0)
  pub second : IfSome b.second (CanWait b.battle 1)

abbrev pub WaitsIn : Option Fight → Type 0
WaitsIn None = Unit {0}
WaitsIn (Some f) = MayWait f.bout

put_waits : (b : Bout) (s : ℕ) (w : Option Choice) → MayWait b → s < 2 → IfSome w (CanWait b.battle s) → MayWait (with_waiting s w b)
put_waits b zero w h lt may = record { first = may; second = h.second }
put_waits b (suc zero) w h lt may = record { first = h.first; second = may }
put_waits b (suc (suc s)) w h lt may = absurd (omega arith)

-- nothing waits after a round
nothing_waits : (b : Bout) → b.first ≡ None → b.second ≡ None → MayWait b
nothing_waits b one two = record { first = rw one tt; second = rw two tt }

ready_waits : (dex : Tables) (b : Bout) (ready : Bool) → (is_ready b 0 && is_ready b 1) ≡ ready → MayWait b → MayWait (completed (figures_of dex) b).bout
unfolding completed committed
ready_waits dex b true is h = rw is (nothing_waits _ refl refl)
ready_waits dex b false is h = rw is h

result_waits : (dex : Tables) (b : Bout) (s : ℕ) (x : Result Choice Why) → MayWait b → s < 2 → ((c : Choice) → x ≡ Ok c → CanWait b.battle s c) → MayWait (chose_by dex b s x).bout
result_waits dex b s (Ok c) h lt may = ready_waits dex (with_waiting s (Some c) b) _ refl (put_waits b s (Some c) h lt (may c refl))
result_waits dex b s (Err why) h lt may = h

gave_up_waits : (s : ℕ) (b : Bout) → MayWait (gave_up s b).bout
unfolding gave_up
gave_up_waits s b = nothing_waits _ refl refl

side_waits : (dex : Tables) (b : Bout) (side : Option ℕ) (cmd : Command) → ((s : ℕ) → side ≡ Some s → s < 2) → MayWait b → MayWait (outcome_in dex b side cmd).bout
side_waits dex b None cmd below h = h
side_waits dex b (Some s) (Choose choice rqid) below h = result_waits dex b s (chosen b s dex choice rqid) h (below s refl) (λ c ok. chosen_waits b s dex choice rqid c ok)
side_waits dex b (Some s) Undo below h = put_waits b s None h (below s refl) tt
side_waits dex b (Some s) Forfeit below h = gave_up_waits s b
side_waits dex b (Some s) other below h = h

battle_waits : (fo : Option Fight) (me : Option Present) (cmd : Command) → WaitsIn fo → WaitsIn (battle_after fo me cmd)
battle_waits None me cmd h = tt
battle_waits (Some f) me cmd h = side_waits f.cast.dex f.bout (side_of_member f.cast me) cmd (side_below f.cast me) h

waits_by : (r : Record) (e : Entry) (v : Option Why) → verdict r e ≡ v → WaitsIn r.battle → WaitsIn (after r e).battle
waits_by r e (Some why) v h = subst (λ (x : Record). WaitsIn x.battle) (sym (after_refused r e why v)) h
waits_by r e None v h = subst (λ (x : Record). WaitsIn x.battle) (sym (after_allowed r e v)) (battle_waits r.battle (sender_of r e) e.cmd h)

-- what waits may be committed after every entry
pub waits_after_entry : (r : Record) (e : Entry) → WaitsIn r.battle → WaitsIn (after r e).battle
waits_after_entry r e h = waits_by r e (verdict r e) refl h

-- ---- the choices of a round

-- choices that both sides may be committed with
pub record AreChoices (b : Battle) (one two : Choice) : Type 0 where
  pub first : IsChoiceOf b 0 one
  pub second : IsChoiceOf b 1 two

pub round_choices : (b : Bout) (s : ℕ) (c : Choice) → s < 2 → MayWait b → CanWait b.battle s c → (is_ready (with_waiting s (Some c) b) 0 && is_ready (with_waiting s (Some c) b) 1) ≡ true → AreChoices b.battle (choice_or_pass (with_waiting s (Some c) b).first) (choice_or_pass (with_waiting s (Some c) b).second)
round_choices b zero c lt h may e = let r = and_parts _ _ e in record { first = ready_choices b.battle 0 (Some c) may r.0; second = ready_choices b.battle 1 b.second h.second r.1 }
round_choices b (suc zero) c lt h may e = let r = and_parts _ _ e in record { first = ready_choices b.battle 0 b.first h.first r.0; second = ready_choices b.battle 1 (Some c) may r.1 }
round_choices b (suc (suc s)) c lt h may e = absurd (omega arith)
