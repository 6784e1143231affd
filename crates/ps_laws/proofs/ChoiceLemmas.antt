-- An allowed choice: it waits, or completes a round, whose items make the same of the record.
use Rattle.std.proofs.Common.{◌≡◌, ◌⊎◌, ℕ, zero, suc, ◌<◌, Bool, true, false, ◌&&◌, List, [], Option, Some, None, Result, Ok, Err, refl, ap, ◌∙◌, inl, inr, arith}
use Rattle.ps_base.specs.declared.why.Why.{Why}
use Rattle.ps_lines.specs.declared.command.Command.TheVariants.{Choose}
use Rattle.ps_mon.specs.declared.choice.Choice.{Choice}
use Rattle.ps_dex.specs.Figures.{figures_of}
use Rattle.battle_rounds.specs.declared.bout.Bout.{Bout}
use Rattle.battle_rounds.specs.Bouts.{with_waiting}
use Rattle.battle_rounds.specs.Refusals.{chosen}
use Rattle.battle_rounds.specs.Rounds.{is_ready, choice_or_pass, committed, completed}
use Rattle.battle_rounds.specs.Fights.{Fight, outcome_in, refusal_in}
use Rattle.ps_chat.specs.declared.present.Present.{Present}
use Rattle.ps_room.specs.Roles.{side_of_member}
use Rattle.ps_laws.specs.Alike.{own_bout, own_fight}
use Rattle.ps_laws.specs.Rounds.{round_of_choices}
use Rattle.ps_laws.proofs.RoundParts.{round_in}
use Rattle.ps_laws.proofs.PartLemmas.{PlaysOwn, chosen_own, side_below, if_none}
use Rattle.ps_laws.proofs.WaitLemmas.{MayWait, AreChoices, chosen_waits, round_choices}
use Rattle.ps_laws.proofs.ItemLemmas.{put_choice, waiting_in, waiting_fight, outcome_of_choices}

-- ---- the battle

-- it waits
pub record Waits (f : Fight) (side : Option ℕ) (choice : List ℕ) (rqid : Option ℕ) : Type 0 where
  pub round : round_in f.cast.dex f.bout side (Choose choice rqid) ≡ None
  pub outcome : outcome_in f.cast.dex f.bout side (Choose choice rqid) ≡ record { bout = waiting_in f.cast.dex f.bout side choice rqid; told = [] }

-- it completes a round, of choices that both sides may be committed with
pub record Completes (f : Fight) (side : Option ℕ) (choice : List ℕ) (rqid : Option ℕ) : Type 0 where
  pub one : Choice
  pub two : Choice
  pub round : round_in f.cast.dex f.bout side (Choose choice rqid) ≡ Some (round_of_choices (figures_of f.cast.dex) f.bout.battle one two)
  pub outcome : outcome_in f.cast.dex f.bout side (Choose choice rqid) ≡ outcome_of_choices f one two
  pub choices : MayWait f.bout → AreChoices f.bout.battle one two

with_ready : (f : Fight) (s : ℕ) (c : Choice) (choice : List ℕ) (rqid : Option ℕ) (ready : Bool) → s < 2 → chosen f.bout s f.cast.dex choice rqid ≡ Ok c → (is_ready (with_waiting s (Some c) f.bout) 0 && is_ready (with_waiting s (Some c) f.bout) 1) ≡ ready → Waits f (Some s) choice rqid ⊎ Completes f (Some s) choice rqid
unfolding completed committed
with_ready f s c choice rqid false lt ok ready = inl (record {
  round = rw (ok, ready) refl;
  outcome = rw (ok, ready) refl;
})
with_ready f zero c choice rqid true lt ok ready = inr (record {
  one = c;
  two = choice_or_pass f.bout.second;
  round = rw (ok, ready) refl;
  outcome = rw (ok, ready) refl;
  choices = λ h. round_choices f.bout 0 c lt h (chosen_waits f.bout 0 f.cast.dex choice rqid c ok) ready;
})
with_ready f (suc s) c choice rqid true lt ok ready = inr (record {
  one = choice_or_pass f.bout.first;
  two = c;
  round = rw (ok, ready) refl;
  outcome = rw (ok, ready) refl;
  choices = λ h. round_choices f.bout (suc s) c lt h (chosen_waits f.bout (suc s) f.cast.dex choice rqid c ok) ready;
})

with_choice : (f : Fight) (s : ℕ) (choice : List ℕ) (rqid : Option ℕ) (x : Result Choice Why) → s < 2 → chosen f.bout s f.cast.dex choice rqid ≡ x → refusal_in f.cast.dex f.bout (Some s) (Choose choice rqid) ≡ None → Waits f (Some s) choice rqid ⊎ Completes f (Some s) choice rqid
with_choice f s choice rqid (Ok c) lt is allowed = with_ready f s c choice rqid _ lt is refl
with_choice f s choice rqid (Err why) lt is allowed = let refused_it : Some why ≡ None = rw is at allowed in absurd cc

pub choice_does : (f : Fight) (side : Option ℕ) (choice : List ℕ) (rqid : Option ℕ) → ((s : ℕ) → side ≡ Some s → s < 2) → refusal_in f.cast.dex f.bout side (Choose choice rqid) ≡ None → Waits f side choice rqid ⊎ Completes f side choice rqid
choice_does f None choice rqid below allowed = absurd cc
choice_does f (Some s) choice rqid below allowed = with_choice f s choice rqid _ (below s refl) refl allowed

-- ---- of an own side, or of another

put_own : (own : ℕ → Bool) (s : ℕ) (c : Choice) (b : Bout) → s < 2 → own s ≡ true → with_waiting s (Some c) (own_bout own b) ≡ own_bout own (with_waiting s (Some c) b)
put_own own zero c b lt mine = rw mine refl
put_own own (suc zero) c b lt mine = rw mine refl
put_own own (suc (suc s)) c b lt mine = absurd (omega arith)

put_other : (own : ℕ → Bool) (s : ℕ) (c : Choice) (b : Bout) → s < 2 → own s ≡ false → own_bout own (with_waiting s (Some c) b) ≡ own_bout own b
put_other own zero c b lt other = rw other refl
put_other own (suc zero) c b lt other = rw other refl
put_other own (suc (suc s)) c b lt other = absurd (omega arith)

put_result_own : (own : ℕ → Bool) (s : ℕ) (x : Result Choice Why) (b : Bout) → s < 2 → own s ≡ true → put_choice s x (own_bout own b) ≡ own_bout own (put_choice s x b)
put_result_own own s (Ok c) b lt mine = put_own own s c b lt mine
put_result_own own s (Err why) b lt mine = refl

put_result_other : (own : ℕ → Bool) (s : ℕ) (x : Result Choice Why) (b : Bout) → s < 2 → own s ≡ false → own_bout own (put_choice s x b) ≡ own_bout own b
put_result_other own s (Ok c) b lt other = put_other own s c b lt other
put_result_other own s (Err why) b lt other = refl

-- what an own side chooses is known of what waits
waiting_own : (own : ℕ → Bool) (f : Fight) (side : Option ℕ) (choice : List ℕ) (rqid : Option ℕ) → ((s : ℕ) → side ≡ Some s → s < 2) → ((s : ℕ) → side ≡ Some s → own s ≡ true) → waiting_in f.cast.dex (own_bout own f.bout) side choice rqid ≡ own_bout own (waiting_in f.cast.dex f.bout side choice rqid)
waiting_own own f None choice rqid below mine = refl
waiting_own own f (Some s) choice rqid below mine =
    ap (λ (x : Result Choice Why). put_choice s x (own_bout own f.bout)) (chosen_own own f.bout s f.cast.dex choice rqid (below s refl) (mine s refl))
    ∙ put_result_own own s _ f.bout (below s refl) (mine s refl)

pub fight_waiting_own : (own : ℕ → Bool) (fo : Option Fight) (me : Option Present) (choice : List ℕ) (rqid : Option ℕ) → PlaysOwn own fo me → waiting_fight (own_fight own fo) me choice rqid ≡ own_fight own (waiting_fight fo me choice rqid)
fight_waiting_own own None me choice rqid plays = refl
fight_waiting_own own (Some f) me choice rqid plays = ap (λ (b : Bout). Some (record f { bout = b })) (waiting_own own f (side_of_member f.cast me) choice rqid (side_below f.cast me) plays)

-- what another side chooses isn't
pub waiting_other : (own : ℕ → Bool) (f : Fight) (side : Option ℕ) (choice : List ℕ) (rqid : Option ℕ) → ((s : ℕ) → side ≡ Some s → s < 2) → ((s : ℕ) → side ≡ Some s → own s ≡ false) → own_bout own (waiting_in f.cast.dex f.bout side choice rqid) ≡ own_bout own f.bout
waiting_other own f None choice rqid below other = refl
waiting_other own f (Some s) choice rqid below other = put_result_other own s _ f.bout (below s refl) (other s refl)

-- ---- a round doesn't depend on what waits

put_outcome : (f : Fight) (s : ℕ) (x : Result Choice Why) (one two : Choice) → outcome_of_choices (record f { bout = put_choice s x f.bout }) one two ≡ outcome_of_choices f one two
put_outcome f zero (Ok c) one two = refl
put_outcome f (suc s) (Ok c) one two = refl
put_outcome f s (Err why) one two = refl

pub waiting_outcome : (f : Fight) (side : Option ℕ) (choice : List ℕ) (rqid : Option ℕ) (one two : Choice) → outcome_of_choices (record f { bout = waiting_in f.cast.dex f.bout side choice rqid }) one two ≡ outcome_of_choices f one two
waiting_outcome f None choice rqid one two = refl
waiting_outcome f (Some s) choice rqid one two = put_outcome f s _ one two

-- after a round nothing waits
pub round_own : (own : ℕ → Bool) (f : Fight) (one two : Choice) → own_bout own (outcome_of_choices f one two).bout ≡ (outcome_of_choices f one two).bout
round_own own f one two = rw (if_none (own 0), if_none (own 1)) refl
