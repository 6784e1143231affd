-- Who has another's form as the acts of a turn begin.
use Rattle.std.proofs.Common.{◌≡◌, ◌≢◌, ◌∙◌, ℕ, ◌-◌, Bool, true, false, ◌||◌, ◌==◌, not, is_some, [], ◌∷◌, length, set, arith, refl, ap, sym, true≢false}
use Rattle.std.specs.List.{list_any}
use Rattle.std.proofs.lemmas.Bool.{not-true, and_parts}
use Rattle.ps_mon.specs.declared.record.Battle.{Battle}
use Rattle.ps_mon.specs.declared.record.SideState.{SideState}
use Rattle.ps_mon.specs.declared.record.ChangedSlots.{ChangedSlots}
use Rattle.ps_mon.specs.declared.choice.Choice.{Choice}
use Rattle.ps_mon.specs.declared.choice.Choice.TheVariants as choices
use Rattle.ps_mon.specs.Reading.{side_of, active_index, no_side}
use Rattle.ps_mon.specs.Switching.{came_in, released, with_switch}
use Rattle.ps_mon.proofs.SideLemmas.{each_side}
use Rattle.ps_hits.specs.Courses.{Course}
use Rattle.ps_battle.specs.Switches.{switch_event, sent_in, switched}
use Rattle.ps_battle.specs.Turns.{both_switched}
use Rattle.battle_secrecy.specs.Showing.{takes_form}
use Rattle.battle_secrecy.specs.Courses.{HasForms, has_copied}
use Rattle.battle_secrecy.specs.Laws.{is_switch, has_form, forms}
use Rattle.battle_secrecy.proofs.SlotLemmas.{at_each_one}
use Rattle.battle_secrecy.proofs.KindLemmas.{begun_course}
use Rattle.battle_secrecy.proofs.FrontLemmas.{begun_two, two_kept}
use Rattle.battle_secrecy.proofs.TellLemmas.{IsPlain, forms-behind}
use Rattle.battle_secrecy.proofs.TellTurnLemmas.{begun_forms}

or-first : (p q : Bool) → q ≡ false → (p || q) ≡ true → p ≡ true
or-first true q none h = refl
or-first false q none h = absurd (true≢false (sym h ∙ none))

-- ---- a switch

released-slots : (a : SideState) → (released a).vol.slots ≡ a.vol.slots
unfolding released
released-slots a = refl

-- the other side's slots stay
switch-slots : (b : Battle) (s position i : ℕ) → i ≢ s → (side_of (with_switch b s position) i).vol.slots ≡ (side_of b i).vol.slots
unfolding with_switch
switch-slots b s position =
    let Stays : ℕ → SideState → Type 0 = λ i a. i ≢ s → a.vol.slots ≡ (side_of b i).vol.slots in
    let own : SideState = came_in (side_of b s) position in
    at_each_one Stays (set b.sides s own) (1 - s) (released (side_of b (1 - s))) no_side (λ ne. released-slots (side_of b (1 - s)))
    (at_each_one Stays b.sides s own no_side (λ ne. absurd (ne refl)) (λ i ne. refl))

-- who has the slots of another's form keeps them, where its side sends in no member
switched-copied : (s : ℕ) (choice : Choice) (c : Course) (i : ℕ) → (i ≡ s → is_switch choice ≡ false) → has_copied c.battle i ≡ true → has_copied (switched s choice c).battle i ≡ true
unfolding switched sent_in
switched-copied s (choices.Move n) c i stays h = h
switched-copied s choices.Struggle c i stays h = h
switched-copied s choices.Continue c i stays h = h
switched-copied s (choices.Switch position) c i stays h = ap (λ (x : ChangedSlots). is_some x.copied) (switch-slots c.battle s position i (λ e. true≢false (stays e))) ∙ h
switched-copied s choices.Pass c i stays h = h
switched-copied s (choices.Team numbers) c i stays h = h

switch-plain : (s : ℕ) (a : SideState) → IsPlain (switch_event s a)
unfolding switch_event
switch-plain s a = tt

-- nobody takes a form by it
switched-told : (s : ℕ) (choice : Choice) (c : Course) (i k : ℕ) → list_any (takes_form i k) (switched s choice c).told ≡ list_any (takes_form i k) c.told
unfolding switched sent_in
switched-told s (choices.Move n) c i k = refl
switched-told s choices.Struggle c i k = refl
switched-told s choices.Continue c i k = refl
switched-told s (choices.Switch position) c i k = forms-behind i k c.told (switch_event s _ ∷ []) (switch-plain s _, tt)
switched-told s choices.Pass c i k = refl
switched-told s (choices.Team numbers) c i k = refl

-- ---- both sides

form-copied : (b : Battle) (choice : Choice) (s k : ℕ) → has_form b choice s k ≡ true → (is_switch choice ≡ false) × (has_copied b s ≡ true)
form-copied b choice s k h = (not-true (is_switch choice) (and_parts _ _ h).0, (and_parts (active_index (side_of b s) == k) _ ((and_parts (not (is_switch choice)) _ h).1)).1)

-- As the acts begin, each member that has another's form by its battle before and its side's choice has the slots of it.
pub acts_begin : (one two : Choice) (c : Course) (front : ℕ → ℕ) → length c.battle.sides ≡ 2 → ((s k : ℕ) → list_any (takes_form s k) c.told ≡ false) → HasForms (forms c.battle one two) front (both_switched one two (begun_course c))
unfolding both_switched
acts_begin one two c front sides none =
    let from : Course = begun_course c in
    let came : Course = switched 0 one from in
    let untold : (s : ℕ) → list_any (takes_form s (front s)) (switched 1 two came).told ≡ false = λ s. switched-told 1 two came s (front s) ∙ switched-told 0 one from s (front s) ∙ none s (front s) in
    let Q : ℕ → Type 0 = λ s. (forms c.battle one two s (front s) || list_any (takes_form s (front s)) (switched 1 two came).told) ≡ true → has_copied (switched 1 two came).battle s ≡ true in
    record {
      two = two_kept 1 two came (two_kept 0 one from (begun_two c.battle sides));
      copied = each_side Q
          (λ h. (let had = form-copied c.battle one 0 (front 0) (or-first _ _ (untold 0) h) in
          switched-copied 1 two came 0 (λ e. absurd (omega (arith, e))) (switched-copied 0 one from 0 (λ e. had.0) ((begun_forms c.battle).copied 0 had.1))))
          (λ h. (let had = form-copied c.battle two 1 (front 1) (or-first _ _ (untold 1) h) in
          switched-copied 1 two came 1 (λ e. had.0) (switched-copied 0 one from 1 (λ e. absurd (omega (arith, e))) ((begun_forms c.battle).copied 1 had.1))));
    }
