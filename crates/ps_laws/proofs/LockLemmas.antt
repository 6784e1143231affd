-- Two rooms that differ in hidden places alone, over one history: entry by entry they judge alike, complete the same rounds and have the same items.
use Rattle.std.proofs.Common.{◌≡◌, ℕ, zero, suc, ◌<◌, Bool, true, false, cond, ◌&&◌, ◌||◌, List, [], ◌∷◌, ◌++◌, Option, Some, None, Result, Ok, Err, option_to_list, is_some, not, refl, ap, ap₂, ◌∙◌, sym, subst}
use Rattle.std.proofs.lemmas.List.Elements.{All-append}
use Rattle.std.specs.Prelude.{◌==◌}
use Rattle.ps_base.specs.declared.why.Why.{Why}
use Rattle.ps_lines.specs.declared.command.Command.{Command}
use Rattle.ps_lines.specs.declared.command.Command.TheVariants.{Choose, Undo, Modnote}
use Rattle.ps_event.specs.declared.audience.Audience.TheVariants.{Rank}
use Rattle.ps_mon.specs.declared.choice.Choice.{Choice}
use Rattle.ps_mon.specs.declared.record.Battle.{Battle}
use Rattle.ps_mon.specs.declared.record.Phase.{Phase}
use Rattle.ps_mon.specs.declared.record.Volatiles.{Volatiles}
use Rattle.ps_mon.specs.Choices.{is_asked}
use Rattle.ps_mon.specs.Reading.{side_of, active_index}
use Rattle.ps_dex.specs.declared.item.Tables.{Tables}
use Rattle.ps_dex.specs.Figures.{figures_of}
use Rattle.ps_choice.specs.Wants.{want_in}
use Rattle.ps_view.specs.declared.role.Role.{Role}
use Rattle.battle_rounds.specs.declared.bout.Bout.{Bout}
use Rattle.battle_rounds.specs.Bouts.{CanWait, with_waiting}
use Rattle.battle_rounds.specs.Refusals.{chosen, refused}
use Rattle.battle_rounds.specs.Rounds.{Outcome, is_ready, choice_or_pass, committed, completed}
use Rattle.battle_rounds.specs.Fights.{Fight, outcome_in, chose_by, refusal_in, requests}
use Rattle.battle_secrecy.specs.Places.{Hidden}
use Rattle.battle_secrecy.specs.Alike.{AreBattlesAlike}
use Rattle.battle_secrecy.specs.Courses.{has_copied}
use Rattle.battle_secrecy.specs.Showing.{shows_one}
use Rattle.battle_secrecy.specs.Laws.{forms, has_form, is_switch}
use Rattle.ps_chat.specs.declared.present.Present.{Present}
use Rattle.ps_room.specs.declared.entry.Entry.{Entry}
use Rattle.ps_room.specs.Tolds.{Logged}
use Rattle.ps_room.specs.Records.{Record}
use Rattle.ps_room.specs.Roles.{side_of_member, sees}
use Rattle.ps_room.specs.Rooms.{sender_of, verdict, after, applied, or_else, refusal_by_battle, logged_of, role}
use Rattle.ps_room.proofs.AnswerLemmas.{after_allowed, after_refused}
use Rattle.ps_laws.specs.Alike.{AreAlike, AreBoutsAlike, AreFightsAlike, AreMaybeAlike, IsLoggedOpenly}
use Rattle.ps_laws.specs.Users.{user_of, users_from}
use Rattle.ps_laws.specs.Rounds.{Round, choice_of, round_of_choices, round_of, rounds_from}
use Rattle.ps_laws.proofs.RoundParts.{completed_if, round_by, round_in, round_if_allowed}
use Rattle.ps_laws.specs.Hidden.{spot_at, is_chosen, names_slot}
use Rattle.ps_laws.specs.Low.{Item, whole, commit, entry_kept, is_own, commit_of, items_of_own, items_of_others, items_of_allowed, items_of, low_from}
use Rattle.ps_laws.proofs.PartLemmas.{is_choose, side_below}
use Rattle.ps_laws.proofs.WaitLemmas.{AreChoices, MayWait, WaitsIn, chosen_waits, round_choices, waits_after_entry}
use Rattle.ps_laws.proofs.ShownLemmas.{IsUnshown, AreUnshown}
use Rattle.ps_laws.proofs.TwinSideLemmas.{IsOpen, side_same, refusal_same}
use Rattle.ps_laws.proofs.TwinBoutLemmas.{AreOutcomesAlike, with_outcome, waits_alike, names_none, choices_alike}
use Rattle.ps_laws.proofs.TwinTellLemmas.{logged_openly}
use Rattle.ps_laws.proofs.TwinStepLemmas.{with_fight, applied_alike, round_logged}
use Rattle.ps_laws.proofs.TwinLemmas.{room_role_same, second_is}
use Rattle.ps_laws.proofs.FineLemmas.{IsFineRound, good_choices}
use Rattle.ps_laws.proofs.ItemLemmas.{outcome_of_choices, waiting_fight}
use Rattle.ps_laws.proofs.StepLemmas.{made, after_choice, round_none, round_at, chat_choice_after, chat_choice_round}
use Rattle.ps_laws.proofs.HistoryLemmas.{unshown_split}
use Rattle.ps_laws.proofs.WishLemmas.{AsksPast, chosen_twins}

-- Places of two worlds: the same ones, with what each world has in them.
pub record ArePlaces (P Q : Hidden) : Type 0 where
  pub members : (s k : ℕ) → P.member s k ≡ Q.member s k
  pub slots : (s k j : ℕ) → P.slot s k j ≡ Q.slot s k j
  pub member_below : (s k : ℕ) → Q.member s k ≡ true → s < 2
  pub slot_below : (s k j : ℕ) → Q.slot s k j ≡ true → s < 2

-- ---- what a side chooses

-- what a member's command asks for by name is no move of a hidden slot of the side that it plays
abbrev pub AskPast : Hidden → Hidden → Option Fight → Option Present → Command → Type 0
AskPast P Q None me cmd = Unit {0}
AskPast P Q (Some f) me (Choose choice rqid) = (s : ℕ) → side_of_member f.cast me ≡ Some s → AsksPast P Q s f.cast.dex (want_in choice)
AskPast P Q (Some f) me other = Unit {0}

fights_chosen : (P Q : Hidden) (f g : Fight) (s : ℕ) (text : List ℕ) (number : Option ℕ) → ArePlaces P Q → s < 2 → AreFightsAlike P f g → AreFightsAlike Q g f → AsksPast P Q s f.cast.dex (want_in text) → chosen f.bout s f.cast.dex text number ≡ chosen g.bout s g.cast.dex text number
fights_chosen P Q f g s text number places lt w v past =
    chosen_twins P Q f.bout g.bout s f.cast.dex text number lt (record { one = w.bout; two = v.bout; members = places.members; slots = places.slots }) past
    ∙ ap (λ (dex : Tables). chosen g.bout s dex text number) w.dex

none_open : (places : Hidden) → IsOpen (λ s. false) places
none_open places = record { member = λ s k lt mine. absurd cc; slot = λ s k j lt mine. absurd cc }

side_refusal_twins : (P Q : Hidden) (f g : Fight) (side : Option ℕ) (choice : List ℕ) (rqid : Option ℕ) → ArePlaces P Q → ((s : ℕ) → side ≡ Some s → s < 2) → ((s : ℕ) → side ≡ Some s → AsksPast P Q s f.cast.dex (want_in choice)) → AreFightsAlike P f g → AreFightsAlike Q g f → refusal_in f.cast.dex f.bout side (Choose choice rqid) ≡ refusal_in g.cast.dex g.bout side (Choose choice rqid)
side_refusal_twins P Q f g None choice rqid places below past w v = refl
side_refusal_twins P Q f g (Some s) choice rqid places below past w v = ap refused (fights_chosen P Q f g s choice rqid places (below s refl) w v (past s refl))

refusal_twins : (P Q : Hidden) (fo go : Option Fight) (me : Option Present) (cmd : Command) → ArePlaces P Q → AskPast P Q fo me cmd → AreMaybeAlike P fo go → AreMaybeAlike Q go fo → refusal_by_battle fo me cmd ≡ refusal_by_battle go me cmd
refusal_twins P Q None None me cmd places past w v = refl
refusal_twins P Q None (Some g) me cmd places past w v = absurd w
refusal_twins P Q (Some f) None me cmd places past w v = absurd w
refusal_twins P Q (Some f) (Some g) me (Choose choice rqid) places past w v =
    side_refusal_twins P Q f g (side_of_member f.cast me) choice rqid places (side_below f.cast me) past w v
    ∙ ap (λ (side : Option ℕ). refusal_in g.cast.dex g.bout side (Choose choice rqid)) (side_same P f g me w)
refusal_twins P Q (Some f) (Some g) me other places past w v = refusal_same (λ s. false) P (Some f) (Some g) me other (none_open P) (λ chooses. absurd cc) w

verdict_paired : (P Q : Hidden) (r : Record) (go : Option Fight) (e : Entry) → ArePlaces P Q → AskPast P Q r.battle (sender_of r e) e.cmd → AreMaybeAlike P r.battle go → AreMaybeAlike Q go r.battle → verdict r e ≡ verdict (with_fight r go) e
unfolding verdict
verdict_paired P Q r go e places past w v = ap (or_else _) (refusal_twins P Q r.battle go (sender_of r e) e.cmd places past w v)

-- ---- rounds

-- two rounds that differ in what the battles hold, and show the same
pub record AreRoundsAlike (r q : Round) : Type 0 where
  pub before : (s : ℕ) → s < 2 → active_index (side_of r.before s) ≡ active_index (side_of q.before s)
  pub after : (s : ℕ) → s < 2 → active_index (side_of r.after s) ≡ active_index (side_of q.after s)
  pub first : r.first ≡ q.first
  pub second : r.second ≡ q.second
  pub told : r.told ≡ q.told
  pub forms : (s k : ℕ) → s < 2 → forms r.before r.first r.second s k ≡ forms q.before q.first q.second s k

abbrev pub AreMaybeRounds : Option Round → Option Round → Type 0
AreMaybeRounds None None = Unit {0}
AreMaybeRounds (Some r) (Some q) = AreRoundsAlike r q
AreMaybeRounds one two = ⊥

abbrev pub AreAllRounds : List Round → List Round → Type 0
AreAllRounds [] [] = Unit {0}
AreAllRounds (r ∷ rs) (q ∷ qs) = AreRoundsAlike r q × AreAllRounds rs qs
AreAllRounds rs qs = ⊥

active_same : (P : Hidden) (a b : Battle) (s : ℕ) → s < 2 → AreBattlesAlike P a b → active_index (side_of a s) ≡ active_index (side_of b s)
active_same P a b s lt w = ap (λ (order : List ℕ). active_index (record (side_of b s) { order = order })) (w.sides s lt).order

copied_same : (P : Hidden) (a b : Battle) (s : ℕ) → s < 2 → AreBattlesAlike P a b → has_copied a s ≡ has_copied b s
copied_same P a b s lt w = ap (λ (v : Volatiles). is_some v.slots.copied) (w.sides s lt).vol

form_same : (P : Hidden) (a b : Battle) (c : Choice) (s k : ℕ) → s < 2 → AreBattlesAlike P a b → has_form a c s k ≡ has_form b c s k
form_same P a b c s k lt w =
    ap (λ (i : ℕ). not (is_switch c) && (i == k && has_copied a s)) (active_same P a b s lt w)
    ∙ ap (λ (x : Bool). not (is_switch c) && (active_index (side_of b s) == k && x)) (copied_same P a b s lt w)

forms_same : (P : Hidden) (a b : Battle) (one two : Choice) (s k : ℕ) → s < 2 → AreBattlesAlike P a b → forms a one two s k ≡ forms b one two s k
forms_same P a b one two zero k lt w = form_same P a b one zero k lt w
forms_same P a b one two (suc s) k lt w = form_same P a b two (suc s) k lt w

-- what a round shows, it shows in both worlds
chosen_at : Round → ℕ → ℕ → ℕ → ℕ → Choice → Bool
chosen_at r s k j active choice = active == k && names_slot j choice

choice_at_same : (r q : Round) (s : ℕ) → AreRoundsAlike r q → choice_of r s ≡ choice_of q s
choice_at_same r q zero w = w.first
choice_at_same r q (suc s) w = w.second

pub is_chosen_same : (r q : Round) (s k j : ℕ) → s < 2 → AreRoundsAlike r q → is_chosen (spot_at s k j) r ≡ is_chosen (spot_at s k j) q
is_chosen_same r q s k j lt w =
    ap (λ (i : ℕ). i == k && names_slot j (choice_of r s)) (w.before s lt)
    ∙ ap (λ (c : Choice). active_index (side_of q.before s) == k && names_slot j c) (choice_at_same r q s w)

pub shown_in : ℕ → ℕ → ℕ → Round → Bool
shown_in s k mv r = shows_one s k (active_index (side_of r.after s) == k) mv (forms r.before r.first r.second s k) r.told

pub shown_in_same : (r q : Round) (s k mv : ℕ) → s < 2 → AreRoundsAlike r q → shows_one s k (active_index (side_of r.after s) == k) mv (forms r.before r.first r.second s k) r.told ≡ shows_one s k (active_index (side_of q.after s) == k) mv (forms q.before q.first q.second s k) q.told
shown_in_same r q s k mv lt w =
    ap (λ (i : ℕ). shows_one s k (i == k) mv (forms r.before r.first r.second s k) r.told) (w.after s lt)
    ∙ ap (λ (x : Bool). shows_one s k (active_index (side_of q.after s) == k) mv x r.told) (w.forms s k lt)
    ∙ ap (shows_one s k (active_index (side_of q.after s) == k) mv (forms q.before q.first q.second s k)) w.told

unshown_too : (P Q : Hidden) (r q : Round) → ArePlaces P Q → AreRoundsAlike r q → IsUnshown Q r → IsUnshown Q q
unshown_too P Q r q places w h = record {
  members = λ s k hides. ap (λ (i : ℕ). i == k) (sym (w.after s (places.member_below s k hides))) ∙ h.members s k hides;
  chosen = λ s k j hides. sym (is_chosen_same r q s k j (places.slot_below s k j hides) w) ∙ h.chosen s k j hides;
  told = λ s k j hides. sym (shown_in_same r q s k (Q.move s k j) (places.slot_below s k j hides) w) ∙ h.told s k j hides;
}

maybe_unshown_too : (P Q : Hidden) (o p : Option Round) → ArePlaces P Q → AreMaybeRounds o p → AreUnshown Q (option_to_list o) → AreUnshown Q (option_to_list p)
maybe_unshown_too P Q None None places w h = tt
maybe_unshown_too P Q None (Some q) places w h = absurd w
maybe_unshown_too P Q (Some r) None places w h = absurd w
maybe_unshown_too P Q (Some r) (Some q) places w h = (unshown_too P Q r q places w h.0, tt)

-- ---- a choice in two battles that are alike

ready_same : (P : Hidden) (a b : Bout) (s : ℕ) → AreBoutsAlike P a b → is_ready a s ≡ is_ready b s
ready_same P a b zero w = ap (λ (x : Phase). not (is_asked x 0) || is_some a.first) w.battle.phase ∙ ap (λ (x : Option Choice). not (is_asked b.battle.phase 0) || is_some x) w.first
ready_same P a b (suc s) w = ap (λ (x : Phase). not (is_asked x (suc s)) || is_some a.second) w.battle.phase ∙ ap (λ (x : Option Choice). not (is_asked b.battle.phase (suc s)) || is_some x) w.second

-- what a round makes of both, and that it is the same round
record IsRoundTwin (P : Hidden) (o p : Outcome) (x y : Option Round) : Type 0 where
  outcomes : AreOutcomesAlike P o p
  rounds : AreMaybeRounds x y

-- both sides are ready
committed_twin : (P : Hidden) (f g : Fight) (one two : Choice) → AreFightsAlike P f g → IsFineRound P f one two → IsRoundTwin P (outcome_of_choices f one two) (outcome_of_choices g one two) (Some (round_of_choices (figures_of f.cast.dex) f.bout.battle one two)) (Some (round_of_choices (figures_of g.cast.dex) g.bout.battle one two))
committed_twin P f g one two w fine =
    let o : AreOutcomesAlike P (outcome_of_choices f one two) (outcome_of_choices g one two) = choices_alike P f g one two (good_choices P (Some f) (Some g) one two w fine) w in
    record {
      outcomes = o;
      rounds = record {
        before = λ s lt. active_same P f.bout.battle g.bout.battle s lt w.bout.battle;
        after = λ s lt. active_same P (outcome_of_choices f one two).bout.battle (outcome_of_choices g one two).bout.battle s lt o.bout.battle;
        first = refl;
        second = refl;
        told = o.told;
        forms = λ s k lt. forms_same P f.bout.battle g.bout.battle one two s k lt w.bout.battle;
      };
    }

completed_twin : (P : Hidden) (f g : Fight) (ready : Bool) → (is_ready f.bout 0 && is_ready f.bout 1) ≡ ready → (is_ready g.bout 0 && is_ready g.bout 1) ≡ ready → AreFightsAlike P f g → (ready ≡ true → IsFineRound P f (choice_or_pass f.bout.first) (choice_or_pass f.bout.second))
    → IsRoundTwin P (completed (figures_of f.cast.dex) f.bout) (completed (figures_of g.cast.dex) g.bout) (completed_if ready (figures_of f.cast.dex) f.bout) (completed_if ready (figures_of g.cast.dex) g.bout)
unfolding completed committed
completed_twin P f g false is is_too w fine = rw (is, is_too) (record { outcomes = record { bout = w.bout; told = refl; names = names_none P }; rounds = tt })
completed_twin P f g true is is_too w fine =
    let one = choice_or_pass f.bout.first in
    let two = choice_or_pass f.bout.second in
    rw (is, is_too, sym w.bout.first, sym w.bout.second) (committed_twin P f g one two w (fine refl))

waiting_battle : (s : ℕ) (w : Option Choice) (b : Bout) → (with_waiting s w b).battle ≡ b.battle
waiting_battle zero w b = refl
waiting_battle (suc s) w b = refl

-- the same choice of a side
result_twin : (P : Hidden) (f g : Fight) (s : ℕ) (x : Result Choice Why) → s < 2 → AreFightsAlike P f g → MayWait f.bout → ((c : Choice) → x ≡ Ok c → CanWait f.bout.battle s c) → AreUnshown P (option_to_list (round_by f.cast.dex f.bout s x))
    → IsRoundTwin P (chose_by f.cast.dex f.bout s x) (chose_by g.cast.dex g.bout s x) (round_by f.cast.dex f.bout s x) (round_by g.cast.dex g.bout s x)
result_twin P f g s (Err why) lt w may can shown = record { outcomes = record { bout = w.bout; told = refl; names = names_none P }; rounds = tt }
result_twin P f g s (Ok c) lt w may can shown =
    let a = with_waiting s (Some c) f.bout in
    let b = with_waiting s (Some c) g.bout in
    let bouts : AreBoutsAlike P a b = waits_alike P f.bout g.bout s (Some c) w.bout in
    let fights : AreFightsAlike P (record f { bout = a }) (record g { bout = b }) = record { number = w.number; names = w.names; dex = w.dex; bout = bouts } in
    let ready = is_ready a 0 && is_ready a 1 in
    let same : (is_ready b 0 && is_ready b 1) ≡ ready = sym (ap₂ (λ (x y : Bool). x && y) (ready_same P a b 0 bouts) (ready_same P a b 1 bouts)) in
    completed_by_ready P f g a b ready refl same fights shown (λ is. subst (λ (x : Battle). AreChoices x (choice_or_pass a.first) (choice_or_pass a.second)) (sym (waiting_battle s (Some c) f.bout)) (round_choices f.bout s c lt may (can c refl) is)) where
      completed_by_ready : (P : Hidden) (f g : Fight) (a b : Bout) (ready : Bool) → (is_ready a 0 && is_ready a 1) ≡ ready → (is_ready b 0 && is_ready b 1) ≡ ready → AreFightsAlike P (record f { bout = a }) (record g { bout = b })
          → AreUnshown P (option_to_list (completed_if (is_ready a 0 && is_ready a 1) (figures_of f.cast.dex) a)) → ((is_ready a 0 && is_ready a 1) ≡ true → AreChoices a.battle (choice_or_pass a.first) (choice_or_pass a.second))
          → IsRoundTwin P (completed (figures_of f.cast.dex) a) (completed (figures_of g.cast.dex) b) (completed_if (is_ready a 0 && is_ready a 1) (figures_of f.cast.dex) a) (completed_if (is_ready b 0 && is_ready b 1) (figures_of g.cast.dex) b)
      completed_by_ready P f g a b ready is is_too w shown choices =
          rw (is, is_too) (completed_twin P (record f { bout = a }) (record g { bout = b }) ready is is_too w
          (λ yes. record { choices = choices (is ∙ yes); unshown = (subst (λ (x : Bool). AreUnshown P (option_to_list (completed_if x (figures_of f.cast.dex) a))) (is ∙ yes) shown).0 }))

-- the same text of a side
side_twin : (P : Hidden) (f g : Fight) (s : ℕ) (choice : List ℕ) (rqid : Option ℕ) → s < 2 → chosen f.bout s f.cast.dex choice rqid ≡ chosen g.bout s g.cast.dex choice rqid → AreFightsAlike P f g → MayWait f.bout
    → AreUnshown P (option_to_list (round_in f.cast.dex f.bout (Some s) (Choose choice rqid)))
    → IsRoundTwin P (outcome_in f.cast.dex f.bout (Some s) (Choose choice rqid)) (outcome_in g.cast.dex g.bout (Some s) (Choose choice rqid)) (round_in f.cast.dex f.bout (Some s) (Choose choice rqid)) (round_in g.cast.dex g.bout (Some s) (Choose choice rqid))
side_twin P f g s choice rqid lt same w may shown =
    let x = chosen f.bout s f.cast.dex choice rqid in
    subst (λ (y : Result Choice Why). IsRoundTwin P (chose_by f.cast.dex f.bout s x) (chose_by g.cast.dex g.bout s y) (round_by f.cast.dex f.bout s x) (round_by g.cast.dex g.bout s y)) same
    (result_twin P f g s x lt w may (λ c ok. chosen_waits f.bout s f.cast.dex choice rqid c ok) shown)

-- the side chooses the same in both
abbrev ChooseSame : Fight → Fight → Option ℕ → List ℕ → Option ℕ → Type 0
ChooseSame f g None choice rqid = Unit {0}
ChooseSame f g (Some s) choice rqid = (s < 2) × (chosen f.bout s f.cast.dex choice rqid ≡ chosen g.bout s g.cast.dex choice rqid)

choose_back : (f g : Fight) (side : Option ℕ) (choice : List ℕ) (rqid : Option ℕ) → ChooseSame f g side choice rqid → ChooseSame g f side choice rqid
choose_back f g None choice rqid h = tt
choose_back f g (Some s) choice rqid h = (h.0, sym h.1)

choose_same : (P Q : Hidden) (f g : Fight) (side : Option ℕ) (choice : List ℕ) (rqid : Option ℕ) → ArePlaces P Q → ((s : ℕ) → side ≡ Some s → s < 2) → ((s : ℕ) → side ≡ Some s → AsksPast P Q s f.cast.dex (want_in choice)) → AreFightsAlike P f g → AreFightsAlike Q g f → ChooseSame f g side choice rqid
choose_same P Q f g None choice rqid places below past w v = tt
choose_same P Q f g (Some s) choice rqid places below past w v = (below s refl, fights_chosen P Q f g s choice rqid places (below s refl) w v (past s refl))

member_twin : (P : Hidden) (f g : Fight) (side : Option ℕ) (choice : List ℕ) (rqid : Option ℕ) → ChooseSame f g side choice rqid → AreFightsAlike P f g → MayWait f.bout
    → AreUnshown P (option_to_list (round_in f.cast.dex f.bout side (Choose choice rqid)))
    → IsRoundTwin P (outcome_in f.cast.dex f.bout side (Choose choice rqid)) (outcome_in g.cast.dex g.bout side (Choose choice rqid)) (round_in f.cast.dex f.bout side (Choose choice rqid)) (round_in g.cast.dex g.bout side (Choose choice rqid))
member_twin P f g None choice rqid same w may shown = record { outcomes = record { bout = w.bout; told = refl; names = names_none P }; rounds = tt }
member_twin P f g (Some s) choice rqid same w may shown = side_twin P f g s choice rqid same.0 same.1 w may shown

-- ---- the room after a choice

made_alike : (P : Hidden) (r s : Record) (f g : Fight) (o p : Outcome) → AreAlike P r s → AreFightsAlike P f g → AreOutcomesAlike P o p → AreAlike P (made r f o) (made s g p)
unfolding made
made_alike P r s f g o p w fights outcomes =
    let more = logged_of o.told (requests f.cast o.bout o.told) in
    record {
      opening = w.opening;
      chat = w.chat;
      logged = ap (λ (before : List Logged). before ++ more) w.logged ∙ ap (λ (new : List Logged). s.logged ++ new) (round_logged P f g o p outcomes);
      openly = All-append (IsLoggedOpenly P) r.logged more w.openly (logged_openly P o.told (requests f.cast o.bout o.told) outcomes.names);
      battle = with_outcome P f g o p fights outcomes;
    }

-- ---- one entry

-- what holds of two rooms at an entry
pub record IsLockedAt (conn : ℕ) (ids : List (List ℕ)) (P Q : Hidden) (r s : Record) (e : Entry) : Type 0 where
  pub one : AreAlike P (after r e) (after s e)
  pub two : AreAlike Q (after s e) (after r e)
  pub items : items_of conn ids r e ≡ items_of conn ids s e
  pub user : user_of r e ≡ user_of s e
  pub rounds : AreMaybeRounds (round_of r e) (round_of s e)

commits_same : (o p : Option Round) → AreMaybeRounds o p → commit_of o ≡ commit_of p
commits_same None None w = refl
commits_same None (Some q) w = absurd w
commits_same (Some r) None w = absurd w
commits_same (Some r) (Some q) w = ap₂ (λ (one two : Choice). commit one two ∷ []) w.first w.second

others_same : (conn : ℕ) (r : Record) (go : Option Fight) (e : Entry) (v : Option Why) → role conn r ≡ role conn (with_fight r go) → commit_of (round_of r e) ≡ commit_of (round_of (with_fight r go) e) → items_of_others conn r e v ≡ items_of_others conn (with_fight r go) e v
others_same conn r go e (Some why) seen rounds = refl
others_same conn r go e None seen rounds = allowed_same e.cmd where
  allowed_same : (cmd : Command) → items_of_allowed conn r e cmd ≡ items_of_allowed conn (with_fight r go) e cmd
  allowed_same (Choose choice rqid) = rounds
  allowed_same Undo = refl
  allowed_same (Modnote text) = ap (λ (x : Role). cond (sees conn x (Rank r.opening.staff)) (whole (entry_kept r e) ∷ []) []) seen
  allowed_same other = refl

pub items_by_own : (conn : ℕ) (r : Record) (go : Option Fight) (e : Entry) (own : Bool) → role conn r ≡ role conn (with_fight r go) → verdict r e ≡ verdict (with_fight r go) e → commit_of (round_of r e) ≡ commit_of (round_of (with_fight r go) e)
    → cond own (items_of_own r e) (items_of_others conn r e (verdict r e)) ≡ cond own (items_of_own (with_fight r go) e) (items_of_others conn (with_fight r go) e (verdict (with_fight r go) e))
items_by_own conn r go e true seen same rounds = ap (λ (is : List Item). whole (entry_kept r e) ∷ is) rounds
items_by_own conn r go e false seen same rounds = others_same conn r go e (verdict r e) seen rounds ∙ ap (items_of_others conn (with_fight r go) e) same

items_paired : (conn : ℕ) (ids : List (List ℕ)) (P : Hidden) (r : Record) (go : Option Fight) (e : Entry) → AreMaybeAlike P r.battle go → verdict r e ≡ verdict (with_fight r go) e → AreMaybeRounds (round_of r e) (round_of (with_fight r go) e) → items_of conn ids r e ≡ items_of conn ids (with_fight r go) e
items_paired conn ids P r go e w same rounds = items_by_own conn r go e (is_own conn ids r e) (room_role_same conn P r go w) same (commits_same (round_of r e) (round_of (with_fight r go) e) rounds)

-- what an entry makes of both rooms, by its rounds
record IsStepTwin (P Q : Hidden) (r s : Record) (e : Entry) : Type 0 where
  one : AreAlike P (after r e) (after s e)
  two : AreAlike Q (after s e) (after r e)
  rounds : AreMaybeRounds (round_of r e) (round_of s e)

no_rounds : (r s : Record) (e : Entry) → round_of r e ≡ None → round_of s e ≡ None → AreMaybeRounds (round_of r e) (round_of s e)
no_rounds r s e none none_too = rw (none, none_too) tt

refused_step : (P Q : Hidden) (r s : Record) (e : Entry) (why : Why) → verdict r e ≡ Some why → verdict s e ≡ Some why → AreAlike P r s → AreAlike Q s r → IsStepTwin P Q r s e
refused_step P Q r s e why is is_too w v =
    let kept = after_refused r e why is in
    let kept_too = after_refused s e why is_too in
    record {
      one = subst (λ (x : Record). AreAlike P x (after s e)) (sym kept) (subst (AreAlike P r) (sym kept_too) w);
      two = subst (λ (x : Record). AreAlike Q x (after r e)) (sym kept_too) (subst (AreAlike Q s) (sym kept) v);
      rounds = no_rounds r s e (ap (λ (x : Option Why). round_if_allowed x r e) is) (ap (λ (x : Option Why). round_if_allowed x s e) is_too);
    }

applied_pair : (P : Hidden) (r s : Record) (e : Entry) → is_choose e.cmd ≡ false → AreAlike P r s → AreAlike P (applied r e) (applied s e)
applied_pair P r s e free w =
    let same = second_is P r s w in
    subst (λ (x : Record). AreAlike P (applied r e) (applied x e)) same (applied_alike P r s.battle e free (subst (AreAlike P r) (sym same) w))

free_step : (P Q : Hidden) (r s : Record) (e : Entry) → is_choose e.cmd ≡ false → verdict r e ≡ None → verdict s e ≡ None → AreAlike P r s → AreAlike Q s r → IsStepTwin P Q r s e
free_step P Q r s e free is is_too w v =
    let done = after_allowed r e is in
    let done_too = after_allowed s e is_too in
    record {
      one = subst (λ (x : Record). AreAlike P x (after s e)) (sym done) (subst (AreAlike P (applied r e)) (sym done_too) (applied_pair P r s e free w));
      two = subst (λ (x : Record). AreAlike Q x (after r e)) (sym done_too) (subst (AreAlike Q (applied s e)) (sym done) (applied_pair Q s r e free v));
      rounds = no_rounds r s e (round_none r e free) (round_none s e free);
    }

chat_kept : (r : Record) (e : Entry) (choice : List ℕ) (rqid : Option ℕ) → e.cmd ≡ Choose choice rqid → verdict r e ≡ None → r.battle ≡ None → after r e ≡ r
chat_kept r e choice rqid is v b =
    chat_choice_after r e choice rqid is v b
    ∙ ap (λ (fo : Option Fight). record r { battle = waiting_fight fo (sender_of r e) choice rqid }) b
    ∙ ap (λ (fo : Option Fight). record r { battle = fo }) (sym b)

chat_step : (P Q : Hidden) (r s : Record) (e : Entry) (choice : List ℕ) (rqid : Option ℕ) → e.cmd ≡ Choose choice rqid → verdict r e ≡ None → verdict s e ≡ None → r.battle ≡ None → s.battle ≡ None → AreAlike P r s → AreAlike Q s r → IsStepTwin P Q r s e
chat_step P Q r s e choice rqid is v v_too b b_too w back =
    let kept = chat_kept r e choice rqid is v b in
    let kept_too = chat_kept s e choice rqid is v_too b_too in
    record {
      one = subst (λ (x : Record). AreAlike P x (after s e)) (sym kept) (subst (AreAlike P r) (sym kept_too) w);
      two = subst (λ (x : Record). AreAlike Q x (after r e)) (sym kept_too) (subst (AreAlike Q s) (sym kept) back);
      rounds = no_rounds r s e (chat_choice_round r e choice rqid is v b) (chat_choice_round s e choice rqid is v_too b_too);
    }

battle_step : (P Q : Hidden) (r : Record) (f g : Fight) (e : Entry) (choice : List ℕ) (rqid : Option ℕ) → ArePlaces P Q → e.cmd ≡ Choose choice rqid → verdict r e ≡ None → verdict (with_fight r (Some g)) e ≡ None → r.battle ≡ Some f
    → ((s : ℕ) → side_of_member f.cast (sender_of r e) ≡ Some s → AsksPast P Q s f.cast.dex (want_in choice)) → MayWait f.bout → MayWait g.bout → AreFightsAlike P f g → AreFightsAlike Q g f
    → AreAlike P r (with_fight r (Some g)) → AreAlike Q (with_fight r (Some g)) r → AreUnshown P (option_to_list (round_of r e)) → AreUnshown Q (option_to_list (round_of r e)) → IsStepTwin P Q r (with_fight r (Some g)) e
battle_step P Q r f g e choice rqid places is v v_too b past may may_too fights back w w_back shown shown_too =
    let s = with_fight r (Some g) in
    let me = sender_of r e in
    let side = side_of_member f.cast me in
    let same = choose_same P Q f g side choice rqid places (side_below f.cast me) past fights back in
    let at : round_of r e ≡ round_in f.cast.dex f.bout side (Choose choice rqid) = round_at r e choice rqid f is v b in
    let plays : side_of_member g.cast me ≡ side = sym (side_same P f g me fights) in
    let at_too : round_of s e ≡ round_in g.cast.dex g.bout side (Choose choice rqid) = round_at s e choice rqid g is v_too refl ∙ ap (λ (x : Option ℕ). round_in g.cast.dex g.bout x (Choose choice rqid)) plays in
    let twin = member_twin P f g side choice rqid same fights may (subst (λ (o : Option Round). AreUnshown P (option_to_list o)) at shown) in
    let unshown = maybe_unshown_too P Q (round_in f.cast.dex f.bout side (Choose choice rqid)) (round_in g.cast.dex g.bout side (Choose choice rqid)) places twin.rounds (subst (λ (o : Option Round). AreUnshown Q (option_to_list o)) at shown_too) in
    let twin_back = member_twin Q g f side choice rqid (choose_back f g side choice rqid same) back may_too unshown in
    let done : after r e ≡ made r f (outcome_in f.cast.dex f.bout side (Choose choice rqid)) = after_choice r e choice rqid f is v b in
    let done_too : after s e ≡ made s g (outcome_in g.cast.dex g.bout side (Choose choice rqid)) = after_choice s e choice rqid g is v_too refl ∙ ap (λ (x : Option ℕ). made s g (outcome_in g.cast.dex g.bout x (Choose choice rqid))) plays in
    record {
      one = subst (λ (x : Record). AreAlike P x (after s e)) (sym done) (subst (AreAlike P (made r f (outcome_in f.cast.dex f.bout side (Choose choice rqid)))) (sym done_too) (made_alike P r s f g _ _ w fights twin.outcomes));
      two = subst (λ (x : Record). AreAlike Q x (after r e)) (sym done_too) (subst (AreAlike Q (made s g (outcome_in g.cast.dex g.bout side (Choose choice rqid)))) (sym done) (made_alike Q s r g f _ _ w_back back twin_back.outcomes));
      rounds = subst (λ (o : Option Round). AreMaybeRounds o (round_of s e)) (sym at) (subst (AreMaybeRounds (round_in f.cast.dex f.bout side (Choose choice rqid))) (sym at_too) twin.rounds);
    }

-- what two rooms with these battles need
record AreReady (P Q : Hidden) (fo go : Option Fight) (me : Option Present) (cmd : Command) : Type 0 where
  past : AskPast P Q fo me cmd
  waits : WaitsIn fo
  waits_too : WaitsIn go
  alike : AreMaybeAlike P fo go
  back : AreMaybeAlike Q go fo

choose_step : (P Q : Hidden) (r : Record) (fo go : Option Fight) (e : Entry) (choice : List ℕ) (rqid : Option ℕ) → ArePlaces P Q → e.cmd ≡ Choose choice rqid → verdict r e ≡ None → verdict (with_fight r go) e ≡ None → r.battle ≡ fo
    → AreReady P Q fo go (sender_of r e) (Choose choice rqid) → AreAlike P r (with_fight r go) → AreAlike Q (with_fight r go) r → AreUnshown P (option_to_list (round_of r e)) → AreUnshown Q (option_to_list (round_of r e)) → IsStepTwin P Q r (with_fight r go) e
choose_step P Q r None None e choice rqid places is v v_too b h w back shown shown_too = chat_step P Q r (with_fight r None) e choice rqid is v v_too b refl w back
choose_step P Q r None (Some g) e choice rqid places is v v_too b h w back shown shown_too = absurd h.alike
choose_step P Q r (Some f) None e choice rqid places is v v_too b h w back shown shown_too = absurd h.alike
choose_step P Q r (Some f) (Some g) e choice rqid places is v v_too b h w back shown shown_too = battle_step P Q r f g e choice rqid places is v v_too b h.past h.waits h.waits_too h.alike h.back w back shown shown_too

allowed_step : (P Q : Hidden) (r : Record) (go : Option Fight) (e : Entry) (cmd : Command) → e.cmd ≡ cmd → ArePlaces P Q → verdict r e ≡ None → verdict (with_fight r go) e ≡ None
    → AreReady P Q r.battle go (sender_of r e) cmd → AreAlike P r (with_fight r go) → AreAlike Q (with_fight r go) r → AreUnshown P (option_to_list (round_of r e)) → AreUnshown Q (option_to_list (round_of r e)) → IsStepTwin P Q r (with_fight r go) e
allowed_step P Q r go e (Choose choice rqid) is places v v_too h w back shown shown_too = choose_step P Q r r.battle go e choice rqid places is v v_too refl h w back shown shown_too
allowed_step P Q r go e other is places v v_too h w back shown shown_too = free_step P Q r (with_fight r go) e (ap is_choose is) v v_too w back

judged_step : (P Q : Hidden) (r : Record) (go : Option Fight) (e : Entry) (v : Option Why) → ArePlaces P Q → verdict r e ≡ v → verdict (with_fight r go) e ≡ v
    → AreReady P Q r.battle go (sender_of r e) e.cmd → AreAlike P r (with_fight r go) → AreAlike Q (with_fight r go) r → AreUnshown P (option_to_list (round_of r e)) → AreUnshown Q (option_to_list (round_of r e)) → IsStepTwin P Q r (with_fight r go) e
judged_step P Q r go e (Some why) places v v_too h w back shown shown_too = refused_step P Q r (with_fight r go) e why v v_too w back
judged_step P Q r go e None places v v_too h w back shown shown_too = allowed_step P Q r go e e.cmd refl places v v_too h w back shown shown_too

paired_step : (conn : ℕ) (ids : List (List ℕ)) (P Q : Hidden) (r : Record) (go : Option Fight) (e : Entry) → ArePlaces P Q
    → AreReady P Q r.battle go (sender_of r e) e.cmd → AreAlike P r (with_fight r go) → AreAlike Q (with_fight r go) r → AreUnshown P (option_to_list (round_of r e)) → AreUnshown Q (option_to_list (round_of r e)) → IsLockedAt conn ids P Q r (with_fight r go) e
paired_step conn ids P Q r go e places h w back shown shown_too =
    let same = verdict_paired P Q r go e places h.past h.alike h.back in
    let step = judged_step P Q r go e (verdict r e) places refl (sym same) h w back shown shown_too in
    record {
      one = step.one;
      two = step.two;
      items = items_paired conn ids P r go e h.alike same step.rounds;
      user = refl;
      rounds = step.rounds;
    }

-- one entry in two rooms that are alike both ways, whose round shows no hidden place
pub lock_step : (conn : ℕ) (ids : List (List ℕ)) (P Q : Hidden) (r s : Record) (e : Entry) → ArePlaces P Q → AskPast P Q r.battle (sender_of r e) e.cmd → WaitsIn r.battle → WaitsIn s.battle
    → AreAlike P r s → AreAlike Q s r → AreUnshown P (option_to_list (round_of r e)) → AreUnshown Q (option_to_list (round_of r e)) → IsLockedAt conn ids P Q r s e
lock_step conn ids P Q r s e places past waits waits_too w back shown shown_too =
    let same = second_is P r s w in
    subst (λ (x : Record). IsLockedAt conn ids P Q r x e) same
    (paired_step conn ids P Q r s.battle e places (record { past = past; waits = waits; waits_too = waits_too; alike = w.battle; back = back.battle })
    (subst (AreAlike P r) (sym same) w) (subst (λ (x : Record). AreAlike Q x r) (sym same) back) shown shown_too)

-- ---- histories

-- no choice of a history asks by name for a move of a hidden slot
abbrev pub AllAskPast : Hidden → Hidden → Record → List Entry → Type 0
AllAskPast P Q r [] = Unit {0}
AllAskPast P Q r (e ∷ es) = AskPast P Q r.battle (sender_of r e) e.cmd × AllAskPast P Q (after r e) es

pub record IsLockstep (conn : ℕ) (ids : List (List ℕ)) (r s : Record) (es : List Entry) : Type 0 where
  pub items : low_from conn ids r es ≡ low_from conn ids s es
  pub users : users_from conn r es ≡ users_from conn s es
  pub rounds : AreAllRounds (rounds_from r es) (rounds_from s es)

more_rounds : (o p : Option Round) (rs qs : List Round) → AreMaybeRounds o p → AreAllRounds rs qs → AreAllRounds (option_to_list o ++ rs) (option_to_list p ++ qs)
more_rounds None None rs qs first more = more
more_rounds None (Some q) rs qs first more = absurd first
more_rounds (Some r) None rs qs first more = absurd first
more_rounds (Some r) (Some q) rs qs first more = (first, more)

pub lockstep : (conn : ℕ) (ids : List (List ℕ)) (P Q : Hidden) (r s : Record) (es : List Entry) → ArePlaces P Q → AllAskPast P Q r es → WaitsIn r.battle → WaitsIn s.battle
    → AreAlike P r s → AreAlike Q s r → AreUnshown P (rounds_from r es) → AreUnshown Q (rounds_from r es) → IsLockstep conn ids r s es
lockstep conn ids P Q r s [] places past waits waits_too w back shown shown_too = record { items = refl; users = refl; rounds = tt }
lockstep conn ids P Q r s (e ∷ es) places past waits waits_too w back shown shown_too =
    let unshown = unshown_split P (round_of r e) (rounds_from (after r e) es) shown in
    let unshown_too = unshown_split Q (round_of r e) (rounds_from (after r e) es) shown_too in
    let step = lock_step conn ids P Q r s e places past.0 waits waits_too w back unshown.0 unshown_too.0 in
    let more = lockstep conn ids P Q (after r e) (after s e) es places past.1 (waits_after_entry r e waits) (waits_after_entry s e waits_too) step.one step.two unshown.1 unshown_too.1 in
    record {
      items = ap₂ (λ (xs ys : List Item). xs ++ ys) step.items more.items;
      users = ap₂ (λ (id : List ℕ) (ids : List (List ℕ)). cond (e.conn == conn) (id ∷ []) [] ++ ids) step.user more.users;
      rounds = more_rounds (round_of r e) (round_of s e) (rounds_from (after r e) es) (rounds_from (after s e) es) step.rounds more.rounds;
    }
