-- The slots in force of alike sides, their use, and what changes them.
use Rattle.std.proofs.Common.{◌≡◌, ◌⊎◌, ℕ, ◌-◌, ◌<◌, ◌≤◌, Bool, true, false, Option, Some, None, is_some, List, length, set, get_or, arith, refl, ap, ◌∙◌, sym, subst, inl, inr, get_or-set_same, get_or-set_other, length-set}
use Rattle.std.proofs.lemmas.Bool.Decides.{eqb_tells, leb_tells}
use Rattle.std.proofs.lemmas.List.{set_past}
use Rattle.ps_mon.specs.declared.record.Battle.{Battle}
use Rattle.ps_mon.specs.declared.record.SideState.{SideState}
use Rattle.ps_mon.specs.declared.record.Volatiles.{Volatiles}
use Rattle.ps_mon.specs.declared.record.CopiedSlots.{CopiedSlots}
use Rattle.ps_mon.specs.declared.record.ChangedSlots.{ChangedSlots}
use Rattle.ps_mon.specs.declared.choice.Choice.{Choice}
use Rattle.ps_mon.specs.declared.choice.Choice.TheVariants as choices
use Rattle.ps_mon.specs.declared.team.Member.{Member}
use Rattle.ps_mon.specs.declared.team.MoveSlot.{MoveSlot}
use Rattle.ps_mon.specs.Facts.{Figures}
use Rattle.ps_mon.specs.Reading.{side_of, active_index, active_of, slot_of, no_side, no_slot}
use Rattle.ps_mon.specs.Slots.{slot_count_now, slot_now, slot_in_force, mimicked}
use Rattle.ps_mon.specs.Spending.{spent, with_use, copied_after_use, use_in_force, side_after_use, after_use}
use Rattle.ps_copy.specs.Changing.{with_slots, copied_at, copied_from}
use Rattle.ps_battle.specs.Chosen.{chosen_slot, chosen_move, locked_move, priority_of, priority_by}
use Rattle.battle_secrecy.specs.Places.{Hidden}
use Rattle.battle_secrecy.specs.Alike.{AreAlike, AreSidesAlike, AreShownAlike, AreSlotsAlike}
use Rattle.battle_secrecy.proofs.SideLemmas.{active_alike, count_alike, active_put_alike, vol_put_alike}

-- ---- lists

-- what holds at each place of two lists of one length holds after both are written at one place
pub at_each : {A : Type 0} (R : ℕ → A → A → Type 0) (xs ys : List A) (p : ℕ) (x y d : A) → length xs ≡ length ys → R p x y → ((k : ℕ) → R k (get_or xs k d) (get_or ys k d)) → (k : ℕ) → R k (get_or (set xs p x) k d) (get_or (set ys p y) k d)
at_each R xs ys p x y d long new old k = elim (leb_tells (length xs) p) [
  | inl past ↦
      (let le : length xs ≤ p = past.1 in
      let le_too : length ys ≤ p = omega (arith, le, long) in
      rw set_past (rw set_past (old k)))
  | inr inside ↦
      (let lt : p < length xs = inside.1 in
      let lt_too : p < length ys = omega (arith, lt, long) in
      elim (eqb_tells k p) [
        | inl e ↦ rw e.1 (rw get_or-set_same (rw get_or-set_same new))
        | inr e ↦ (let ne = e.1 in rw get_or-set_other (rw get_or-set_other (old k)))
      ])
]

-- what holds at each place of a list holds after one is written
pub at_each_one : {A : Type 0} (P : ℕ → A → Type 0) (xs : List A) (p : ℕ) (x d : A) → P p x → ((k : ℕ) → P k (get_or xs k d)) → (k : ℕ) → P k (get_or (set xs p x) k d)
at_each_one P xs p x d new old = at_each (λ k x _. P k x) xs xs p x x d refl new old

-- sides that stay alike where both battles are written so
pub one_side_put_alike : (hidden : Hidden) (a b : Battle) (user : ℕ) (x y : SideState) → AreAlike hidden a b → (user < 2 → AreSidesAlike (hidden.member user) (hidden.slot user) (hidden.move user) x y) → AreAlike hidden (record a { sides = set a.sides user x }) (record b { sides = set b.sides user y })
one_side_put_alike hidden a b user x y alike new =
    let two : length a.sides ≡ 2 = alike.first_two in
    let two_too : length b.sides ≡ 2 = alike.second_two in
    record {
      first_two = length-set a.sides user x ∙ two;
      second_two = length-set b.sides user y ∙ two_too;
      turn = alike.turn;
      phase = alike.phase;
      clauses = alike.clauses;
      rng = alike.rng;
      sides = at_each (λ i (m n : SideState). i < 2 → AreSidesAlike (hidden.member i) (hidden.slot i) (hidden.move i) m n) a.sides b.sides user x y no_side (two ∙ sym two_too) new alike.sides;
    }

-- ---- the slots in force

pub slots_shown : (hides : Bool) (mv : ℕ) (x y : MoveSlot) → hides ≡ false → AreSlotsAlike hides mv x y → x ≡ y
slots_shown true mv x y e alike = cc
slots_shown false mv x y e alike = alike

shown_slots : (hides : Bool) (mv : ℕ) (x y : MoveSlot) → hides ≡ false → x ≡ y → AreSlotsAlike hides mv x y
shown_slots true mv x y e same = cc
shown_slots false mv x y e same = same

in_force-alike : (copied : Option CopiedSlots) (mimic : Option ℕ) (m n : Member) (j : ℕ) → slot_of m j ≡ slot_of n j → slot_in_force copied mimic m j ≡ slot_in_force copied mimic n j
in_force-alike None mimic m n j e = ap (mimicked mimic) e
in_force-alike (Some copied) mimic m n j e = refl

-- how the slot in force of a side comes from its volatiles
now-is : (v : Volatiles) (a : SideState) (j : ℕ) → a.vol ≡ v → slot_now a j ≡ slot_in_force v.slots.copied (get_or v.slots.mimic j None) (active_of a) j
unfolding slot_now
now-is v a j e = ap (λ x. slot_in_force x.slots.copied (get_or x.slots.mimic j None) (active_of a) j) e

-- a slot of the active member that isn't hidden
pub own_slot_alike : (member : ℕ → Bool) (slot : ℕ → ℕ → Bool) (move : ℕ → ℕ → ℕ) (a b : SideState) (j : ℕ) → slot (active_index a) j ≡ false → AreSidesAlike member slot move a b → slot_of (active_of a) j ≡ slot_of (active_of b) j
own_slot_alike member slot move a b j shown alike =
    slots_shown (slot (active_index a) j) (move (active_index a) j) _ _ shown ((active_alike member slot move a b alike).slots j)

-- what is in force in its place
pub slot_alike : (member : ℕ → Bool) (slot : ℕ → ℕ → Bool) (move : ℕ → ℕ → ℕ) (a b : SideState) (j : ℕ) → slot (active_index a) j ≡ false → AreSidesAlike member slot move a b → slot_now a j ≡ slot_now b j
slot_alike member slot move a b j shown alike =
    now-is a.vol a j refl ∙ in_force-alike a.vol.slots.copied (get_or a.vol.slots.mimic j None) _ _ j (own_slot_alike member slot move a b j shown alike) ∙ sym (now-is a.vol b j (sym alike.vol))

copied-force : (copied : Option CopiedSlots) (mimic : Option ℕ) (m n : Member) (j : ℕ) → is_some copied ≡ true → slot_in_force copied mimic m j ≡ slot_in_force copied mimic n j
copied-force None mimic m n j e = cc
copied-force (Some copied) mimic m n j e = refl

-- what is in force is equal where the slot isn't hidden, and where the slots are those of another's form
pub slot_or_copied_alike : (member : ℕ → Bool) (slot : ℕ → ℕ → Bool) (move : ℕ → ℕ → ℕ) (a b : SideState) (j : ℕ) → (slot (active_index a) j ≡ true → is_some a.vol.slots.copied ≡ true) → AreSidesAlike member slot move a b → slot_now a j ≡ slot_now b j
slot_or_copied_alike member slot move a b j formed alike = by_cases (slot (active_index a) j) refl
  where
    by_cases : (hides : Bool) → slot (active_index a) j ≡ hides → slot_now a j ≡ slot_now b j
    by_cases false e = slot_alike member slot move a b j e alike
    by_cases true e = now-is a.vol a j refl ∙ copied-force a.vol.slots.copied (get_or a.vol.slots.mimic j None) _ _ j (formed e) ∙ sym (now-is a.vol b j (sym alike.vol))

own-or-equal : (hides : Bool) (mv : ℕ) (copied : Option CopiedSlots) (mimic : Option ℕ) (m n : Member) (j : ℕ) → AreSlotsAlike hides mv (slot_of m j) (slot_of n j) →
    ((slot_in_force copied mimic m j).mv ≡ (slot_in_force copied mimic n j).mv) ⊎ ((hides ≡ true) × ((slot_in_force copied mimic m j).mv ≡ mv) × (is_some copied ≡ false))
own-or-equal hides mv (Some copied) mimic m n j alike = inl refl
own-or-equal hides mv None (Some learned) m n j alike = inl refl
own-or-equal true mv None None m n j alike = inr (refl, alike.0, refl)
own-or-equal false mv None None m n j alike = inl (ap (λ (s : MoveSlot). s.mv) alike)

-- the move of a slot in force is equal in both, or the slot is hidden, has the move that the first battle has there, and is the member's own
pub move_or_hidden : (member : ℕ → Bool) (slot : ℕ → ℕ → Bool) (move : ℕ → ℕ → ℕ) (a b : SideState) (j : ℕ) → AreSidesAlike member slot move a b →
    ((slot_now a j).mv ≡ (slot_now b j).mv) ⊎ ((slot (active_index a) j ≡ true) × ((slot_now a j).mv ≡ move (active_index a) j) × (is_some a.vol.slots.copied ≡ false))
move_or_hidden member slot move a b j alike =
    let one = now-is a.vol a j refl in
    let two = now-is a.vol b j (sym alike.vol) in
    rw one (rw two (own-or-equal (slot (active_index a) j) (move (active_index a) j) a.vol.slots.copied (get_or a.vol.slots.mimic j None) _ _ j ((active_alike member slot move a b alike).slots j)))

-- ---- what is chosen

-- the move in a chosen slot that isn't hidden
pub chosen_slot_alike : (member : ℕ → Bool) (slot : ℕ → ℕ → Bool) (move : ℕ → ℕ → ℕ) (a b : SideState) (n : ℕ) → slot (active_index a) (n - 1) ≡ false → AreSidesAlike member slot move a b → chosen_slot a n ≡ chosen_slot b n
unfolding chosen_slot
chosen_slot_alike member slot move a b n shown alike = ap (λ (s : MoveSlot). s.mv) (slot_alike member slot move a b (n - 1) shown alike)

-- the slot of a choice isn't hidden, where the member at that place is active
abbrev pub IsActUnhidden : Hidden → ℕ → ℕ → Choice → Type 0
IsActUnhidden hidden s index (choices.Move n) = hidden.slot s index (n - 1) ≡ false
IsActUnhidden hidden s index choice = Unit {0}

pub chosen_move_alike : (hidden : Hidden) (s : ℕ) (a b : SideState) (choice : Choice) → IsActUnhidden hidden s (active_index a) choice → AreSidesAlike (hidden.member s) (hidden.slot s) (hidden.move s) a b → chosen_move a choice ≡ chosen_move b choice
unfolding chosen_move
chosen_move_alike hidden s a b (choices.Move n) shown alike = ap (λ mv. Some mv) (chosen_slot_alike _ _ _ a b n shown alike)
chosen_move_alike hidden s a b choices.Continue shown alike = ap (λ (v : Volatiles). locked_move v.lock) alike.vol
chosen_move_alike hidden s a b choices.Struggle shown alike = refl
chosen_move_alike hidden s a b (choices.Switch position) shown alike = refl
chosen_move_alike hidden s a b choices.Pass shown alike = refl
chosen_move_alike hidden s a b (choices.Team numbers) shown alike = refl

pub priority_alike : (facts : Figures) (hidden : Hidden) (s : ℕ) (a b : SideState) (choice : Choice) → IsActUnhidden hidden s (active_index a) choice → AreSidesAlike (hidden.member s) (hidden.slot s) (hidden.move s) a b → priority_of facts a choice ≡ priority_of facts b choice
unfolding priority_of
priority_alike facts hidden s a b choice shown alike = ap (priority_by facts) (chosen_move_alike hidden s a b choice shown alike)

-- ---- a use of a slot

-- a use of a slot that isn't hidden
use-member : (slot : ℕ → Bool) (move : ℕ → ℕ) (m n : Member) (j : ℕ) → slot j ≡ false → AreShownAlike slot move m n → AreShownAlike slot move (with_use m j) (with_use n j)
use-member slot move m n j shown alike =
    let same : slot_of m j ≡ slot_of n j = slots_shown (slot j) (move j) _ _ shown (alike.slots j) in
    record {
      four = length-set m.slots j (spent (slot_of m j)) ∙ alike.four;
      four_too = length-set n.slots j (spent (slot_of n j)) ∙ alike.four_too;
      front = alike.front;
      slots = at_each (λ i (x y : MoveSlot). AreSlotsAlike (slot i) (move i) x y) m.slots n.slots j (spent (slot_of m j)) (spent (slot_of n j)) no_slot (alike.four ∙ sym alike.four_too)
          (shown_slots (slot j) (move j) _ _ shown (ap spent same)) alike.slots;
    }

use-in-force : (copied : Option CopiedSlots) (member : ℕ → Bool) (slot : ℕ → ℕ → Bool) (move : ℕ → ℕ → ℕ) (a b : SideState) (j : ℕ) → slot (active_index a) j ≡ false → AreSidesAlike member slot move a b → AreSidesAlike member slot move (use_in_force copied a j) (use_in_force copied b j)
use-in-force None member slot move a b j shown alike =
    active_put_alike member slot move a b _ _ alike (use-member (slot (active_index a)) (move (active_index a)) _ _ j shown (active_alike member slot move a b alike))
use-in-force (Some copied) member slot move a b j shown alike =
    vol_put_alike member slot move a b _ _ alike (ap (λ (v : Volatiles). record v { slots = record v.slots { copied = Some (copied_after_use copied j) } }) alike.vol)

use-side : (member : ℕ → Bool) (slot : ℕ → ℕ → Bool) (move : ℕ → ℕ → ℕ) (a b : SideState) (j : ℕ) → slot (active_index a) j ≡ false → AreSidesAlike member slot move a b → AreSidesAlike member slot move (side_after_use a j) (side_after_use b j)
unfolding side_after_use
use-side member slot move a b j shown alike =
    let P : Option CopiedSlots → Type 0 = λ o. AreSidesAlike member slot move (use_in_force a.vol.slots.copied a j) (use_in_force o b j) in
    subst P (ap (λ (v : Volatiles). v.slots.copied) alike.vol) (use-in-force a.vol.slots.copied member slot move a b j shown alike)

pub use_alike : (hidden : Hidden) (a b : Battle) (user j : ℕ) → user < 2 → hidden.slot user (active_index (side_of a user)) j ≡ false → AreAlike hidden a b → AreAlike hidden (after_use a user j) (after_use b user j)
unfolding after_use
use_alike hidden a b user j lt shown alike =
    one_side_put_alike hidden a b user _ _ alike (λ h. use-side _ _ _ _ _ j shown (alike.sides user h))

same-order : (copied : Option CopiedSlots) (a : SideState) (j : ℕ) → active_index (use_in_force copied a j) ≡ active_index a
same-order None a j = refl
same-order (Some copied) a j = refl

-- a use changes no place
pub use_index : (b : Battle) (user j s : ℕ) → active_index (side_of (after_use b user j) s) ≡ active_index (side_of b s)
unfolding after_use side_after_use
use_index b user j s = at_each_one (λ i (x : SideState). active_index x ≡ active_index (side_of b i)) b.sides user _ no_side (same-order _ (side_of b user) j) (λ k. refl) s

-- ---- changed slots

-- changes that are the same in both
pub changes_alike : (hidden : Hidden) (a b : Battle) (user : ℕ) (slots : ChangedSlots) → AreAlike hidden a b → AreAlike hidden (with_slots a user slots) (with_slots b user slots)
unfolding with_slots
changes_alike hidden a b user slots alike =
    one_side_put_alike hidden a b user _ _ alike (λ h. vol_put_alike _ _ _ _ _ _ _ (alike.sides user h) (ap (λ (v : Volatiles). record v { slots = slots }) (alike.sides user h).vol))

-- changed slots change no place
pub changes_index : (b : Battle) (user s : ℕ) (slots : ChangedSlots) → active_index (side_of (with_slots b user slots) s) ≡ active_index (side_of b s)
unfolding with_slots
changes_index b user s slots = at_each_one (λ i (x : SideState). active_index x ≡ active_index (side_of b i)) b.sides user _ no_side refl (λ k. refl) s

copied_at-alike : (member : ℕ → Bool) (slot : ℕ → ℕ → Bool) (move : ℕ → ℕ → ℕ) (a b : SideState) (j : ℕ) → (slot (active_index a) j ≡ true → is_some a.vol.slots.copied ≡ true) → AreSidesAlike member slot move a b → copied_at a j ≡ copied_at b j
unfolding copied_at
copied_at-alike member slot move a b j shown alike =
    let now : slot_now a j ≡ slot_now b j = slot_or_copied_alike member slot move a b j shown alike in
    let count : slot_count_now a ≡ slot_count_now b = count_alike member slot move a b alike in
    cc (now, count)

-- what Transform copies of a side whose active member has no hidden slot, or the slots of another's form
pub copied_alike : (member : ℕ → Bool) (slot : ℕ → ℕ → Bool) (move : ℕ → ℕ → ℕ) (a b : SideState) → ((j : ℕ) → slot (active_index a) j ≡ true → is_some a.vol.slots.copied ≡ true) → AreSidesAlike member slot move a b → copied_from a ≡ copied_from b
unfolding copied_from
copied_alike member slot move a b shown alike =
    let count : slot_count_now a ≡ slot_count_now b = count_alike member slot move a b alike in
    let one : copied_at a 0 ≡ copied_at b 0 = copied_at-alike member slot move a b 0 (shown 0) alike in
    let two : copied_at a 1 ≡ copied_at b 1 = copied_at-alike member slot move a b 1 (shown 1) alike in
    let three : copied_at a 2 ≡ copied_at b 2 = copied_at-alike member slot move a b 2 (shown 2) alike in
    let four : copied_at a 3 ≡ copied_at b 3 = copied_at-alike member slot move a b 3 (shown 3) alike in
    cc (count, one, two, three, four)
