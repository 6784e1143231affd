-- No round of a story shows a place that is hidden to a connection there.
use Rattle.std.proofs.Common.{◌≡◌, ℕ, ◌<◌, ◌-◌, Bool, true, false, ◌&&◌, List, [], ◌∷◌, Option, Some, None, get_or, refl, ap, ◌∙◌, sym, arith}
use Rattle.std.proofs.lemmas.Bool.{and_parts, or_parts, not-true, false_from_ne_true, eq-eqb}
use Rattle.std.specs.Prelude.{◌==◌, not}
use Rattle.std.specs.List.{list_any}
use Rattle.ps_mon.specs.declared.record.Battle.{Battle}
use Rattle.ps_mon.specs.declared.record.SideState.{SideState}
use Rattle.ps_mon.specs.declared.choice.Choice.{Choice}
use Rattle.ps_mon.specs.declared.choice.Choice.TheVariants as choices
use Rattle.ps_mon.specs.Facts.{Figures}
use Rattle.ps_mon.specs.Orders.{index_at}
use Rattle.ps_mon.specs.Reading.{side_of, active_index, slot_of}
use Rattle.ps_battle.specs.Turns.{turn}
use Rattle.rules_start.specs.declared.start.Start.{Start}
use Rattle.battle_secrecy.specs.Places.{Hidden}
use Rattle.battle_secrecy.specs.Alike.{AreBattlesAlike, IsPlaced}
use Rattle.battle_secrecy.specs.Showing.{shows_one, ShowsNoHidden}
use Rattle.battle_secrecy.specs.Laws.{IsChoiceUnhidden, forms, fronts}
use Rattle.battle_secrecy.proofs.FrontLemmas.{turn_front, front_after, choice_of_side}
use Rattle.ps_laws.specs.Rounds.{Round, choice_of, round_of_choices, rounds}
use Rattle.ps_laws.specs.Hidden.{spot_at, member_in, has_stood, is_member_hidden, is_chosen, is_told, is_slot_shown, is_slot_hidden, hidden_with, is_previewed, own_sides, hidden, hidden_in_both}
use Rattle.ps_room.specs.Stories.{Story}
use Rattle.ps_laws.specs.Users.{users}
use Rattle.ps_laws.proofs.WaitLemmas.{AreChoices}
use Rattle.ps_hits.specs.Courses.{untold}

-- ---- rounds that show no hidden place

pub record IsUnshown (places : Hidden) (r : Round) : Type 0 where
  pub members : (s k : ℕ) → places.member s k ≡ true → (active_index (side_of r.after s) == k) ≡ false
  pub chosen : (s k j : ℕ) → places.slot s k j ≡ true → is_chosen (spot_at s k j) r ≡ false
  pub told : (s k j : ℕ) → places.slot s k j ≡ true → shows_one s k (active_index (side_of r.after s) == k) (places.move s k j) (forms r.before r.first r.second s k) r.told ≡ false

abbrev pub AreUnshown : Hidden → List Round → Type 0
AreUnshown places [] = Unit {0}
AreUnshown places (r ∷ rs) = IsUnshown places r × AreUnshown places rs

-- ---- those of a story

-- no round shows them
record AreNeverShown (st : Start) (places : Hidden) (rs : List Round) : Type 0 where
  moves : (s k j : ℕ) → places.move s k j ≡ (slot_of (member_in st s k) j).mv
  members : (s k : ℕ) → places.member s k ≡ true → list_any (λ r. active_index (side_of r.after s) == k) rs ≡ false
  slots : (s k j : ℕ) → places.slot s k j ≡ true → list_any (is_slot_shown st (spot_at s k j)) rs ≡ false

each_unshown : (st : Start) (places : Hidden) (rs : List Round) → AreNeverShown st places rs → AreUnshown places rs
each_unshown st places [] never = tt
each_unshown st places (r ∷ rs) never =
    let slot : (s k j : ℕ) → places.slot s k j ≡ true → (is_chosen (spot_at s k j) r ≡ false) × (is_told st (spot_at s k j) r ≡ false) = λ s k j h. or_parts (is_chosen (spot_at s k j) r) (is_told st (spot_at s k j) r) (or_parts (is_slot_shown st (spot_at s k j) r) (list_any (is_slot_shown st (spot_at s k j)) rs) (never.slots s k j h)).0 in (
      record {
        members = λ s k h. (or_parts (active_index (side_of r.after s) == k) (list_any (λ x. active_index (side_of x.after s) == k) rs) (never.members s k h)).0;
        chosen = λ s k j h. (slot s k j h).0;
        told = λ s k j h. ap (λ (mv : ℕ). shows_one s k (active_index (side_of r.after s) == k) mv (forms r.before r.first r.second s k) r.told) (never.moves s k j) ∙ (slot s k j h).1;
      },
      each_unshown st places rs (record {
        moves = never.moves;
        members = λ s k h. (or_parts (active_index (side_of r.after s) == k) (list_any (λ x. active_index (side_of x.after s) == k) rs) (never.members s k h)).1;
        slots = λ s k j h. (or_parts (is_slot_shown st (spot_at s k j) r) (list_any (is_slot_shown st (spot_at s k j)) rs) (never.slots s k j h)).1;
      }),
    )

-- a place that is hidden in both stories is so in the first
last_of_three : (a b c : Bool) → (a && b && not c) ≡ true → c ≡ false
last_of_three a b c e = not-true c (and_parts (a && b) (not c) e).1

never_shown : (preview : Bool) (own : ℕ → Bool) (st : Start) (rs : List Round) (other : Hidden) (places : Hidden) → ((s k : ℕ) → places.member s k ≡ (is_member_hidden preview (own s) st rs s k && other.member s k)) → ((s k j : ℕ) → places.slot s k j ≡ (is_slot_hidden (own s) st rs (spot_at s k j) && other.slot s k j)) → ((s k j : ℕ) → places.move s k j ≡ (slot_of (member_in st s k) j).mv) → AreNeverShown st places rs
never_shown preview own st rs other places members slots moves = record {
  moves = moves;
  members = λ s k h. (or_parts (not preview && k == 0) _ (last_of_three (not (own s)) _ (has_stood preview rs s k) (and_parts _ _ (sym (members s k) ∙ h)).0)).1;
  slots = λ s k j h. last_of_three (not (own s)) _ _ (and_parts _ _ (sym (slots s k j) ∙ h)).0;
}

none_hidden : (places : Hidden) (rs : List Round) → ((s k : ℕ) → places.member s k ≡ false) → ((s k j : ℕ) → places.slot s k j ≡ false) → AreUnshown places rs
none_hidden places [] members slots = tt
none_hidden places (r ∷ rs) members slots = (
  record {
    members = λ s k h. absurd (let wrong : true ≡ false = sym h ∙ members s k in cc);
    chosen = λ s k j h. absurd (let wrong : true ≡ false = sym h ∙ slots s k j in cc);
    told = λ s k j h. absurd (let wrong : true ≡ false = sym h ∙ slots s k j in cc);
  },
  none_hidden places rs members slots,
)

pub both_with : (preview : Bool) (own : ℕ → Bool) (bo : Option Start) (rs : List Round) (other : Hidden) → AreUnshown (record {
  member = λ s k. (hidden_with preview own bo rs).member s k && other.member s k;
  slot = λ s k j. (hidden_with preview own bo rs).slot s k j && other.slot s k j;
  move = (hidden_with preview own bo rs).move;
}) rs
both_with preview own None rs other = none_hidden _ rs (λ s k. refl) (λ s k j. refl)
both_with preview own (Some st) rs other = each_unshown st _ rs (never_shown preview own st rs other _ (λ s k. refl) (λ s k j. refl) (λ s k j. refl))

-- no round of the first of two stories shows a place that is hidden in both
pub story_unshown : (conn : ℕ) (one two : Story) → AreUnshown (hidden_in_both conn one two) (rounds one)
story_unshown conn one two = both_with (is_previewed one.opening.config one.opening.battle) (own_sides (users conn one) one.opening.config one.opening.battle) one.opening.battle (rounds one) (hidden conn two)

-- ---- the choices and the events of such a round

-- the slot or the member that a choice names isn't hidden
choice_unhidden : (places : Hidden) (r : Round) (s : ℕ) (side : SideState) (choice : Choice) → IsUnshown places r → choice_of r s ≡ choice → active_index (side_of r.before s) ≡ active_index side → active_index (side_of r.after s) ≡ front_after side choice → IsChoiceUnhidden places s side choice
choice_unhidden places r s side (choices.Move n) h is before after = false_from_ne_true (places.slot s (active_index side) (n - 1)) (λ t.
    let wrong : true ≡ false = sym (rw (is, before) (rw (eq-eqb (active_index side) (active_index side) refl, eq-eqb (n - 1) (n - 1) refl) refl)) ∙ h.chosen s (active_index side) (n - 1) t in absurd cc)
choice_unhidden places r s side (choices.Switch p) h is before after = false_from_ne_true (places.member s (get_or side.order (p - 1) 0)) (λ t.
    let wrong : true ≡ false = sym (rw after (eq-eqb (get_or side.order (p - 1) 0) (get_or side.order (p - 1) 0) refl)) ∙ h.members s (get_or side.order (p - 1) 0) t in absurd cc)
choice_unhidden places r s side (choices.Team numbers) h is before after = false_from_ne_true (places.member s (index_at side.order (get_or numbers 0 0))) (λ t.
    let wrong : true ≡ false = sym (rw after (eq-eqb (index_at side.order (get_or numbers 0 0)) (index_at side.order (get_or numbers 0 0)) refl)) ∙ h.members s (index_at side.order (get_or numbers 0 0)) t in absurd cc)
choice_unhidden places r s side choices.Struggle h is before after = tt
choice_unhidden places r s side choices.Continue h is before after = tt
choice_unhidden places r s side choices.Pass h is before after = tt

-- what a round from alike battles shows isn't hidden
pub record AreOpenChoices (places : Hidden) (facts : Figures) (b : Battle) (one two : Choice) : Type 0 where
  pub first : IsChoiceUnhidden places 0 (side_of b 0) one
  pub second : IsChoiceUnhidden places 1 (side_of b 1) two
  pub told : ShowsNoHidden places (fronts (turn facts one two (untold b)).battle) (forms b one two) (turn facts one two (untold b)).told

pub open_choices : (places : Hidden) (facts : Figures) (a b : Battle) (one two : Choice) → AreBattlesAlike places a b → AreChoices a one two → IsUnshown places (round_of_choices facts a one two) → AreOpenChoices places facts a one two
open_choices places facts a b one two w c h =
    let p0 : IsPlaced (side_of a 0) = (w.sides 0 (omega arith)).first in
    let p1 : IsPlaced (side_of a 1) = (w.sides 1 (omega arith)).first in
    let front : (s : ℕ) → s < 2 → active_index (side_of (turn facts one two (untold a)).battle s) ≡ front_after (side_of a s) (choice_of_side one two s) = λ s lt. turn_front facts one two a s lt w.first_two p0 p1 c.first c.second in
    record {
      first = choice_unhidden places (round_of_choices facts a one two) 0 (side_of a 0) one h refl refl (front 0 (omega arith));
      second = choice_unhidden places (round_of_choices facts a one two) 1 (side_of a 1) two h refl refl (front 1 (omega arith));
      told = h.told;
    }
