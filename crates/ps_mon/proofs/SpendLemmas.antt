-- A use of a slot: what stays.
use Rattle.std.proofs.Common.{◌≡◌, ◌-◌, ℕ, ◌<◌, ◌≤◌, Option, Some, None, IfSome, List, length, set, get_or, arith, refl, ap, ◌∙◌, sym, subst, get_or-set_same, length-set}
use Rattle.ps_mon.specs.declared.record.Battle.{Battle}
use Rattle.ps_mon.specs.declared.record.SideState.{SideState}
use Rattle.ps_mon.specs.declared.record.CopiedSlots.{CopiedSlots}
use Rattle.ps_mon.specs.declared.team.Member.{Member}
use Rattle.ps_mon.specs.declared.team.MoveSlot.{MoveSlot}
use Rattle.ps_mon.specs.Reading.{side_of, active_index, active_of, slot_of, no_side, no_member, no_slot}
use Rattle.ps_mon.specs.Slots.{slot_count_now, slot_now, mimicked}
use Rattle.ps_mon.specs.Keeping.{KeepsTeam, Keeps}
use Rattle.ps_mon.specs.Valid.{IsSound, IsSide, IsShaped, IsMember, IsCopied}
use Rattle.ps_mon.specs.Known.{AreKnown, IsSideKnown, AreOwnKnown, AreCopiedKnown}
use Rattle.ps_mon.specs.Spending.{spent, with_use, copied_after_use, use_in_force, side_after_use, after_use}
use Rattle.ps_mon.proofs.Lists.{at_one}
use Rattle.ps_mon.proofs.PutLemmas.{index-inside}

spent-pp : (slots : List MoveSlot) (j n : ℕ) → j < length slots → ((k : ℕ) → k < n → (get_or slots k no_slot).pp ≤ (get_or slots k no_slot).max_pp) → (j < n → (get_or slots j no_slot).pp ≤ (get_or slots j no_slot).max_pp) → (k : ℕ) → k < n → (get_or (set slots j (spent (get_or slots j no_slot))) k no_slot).pp ≤ (get_or (set slots j (spent (get_or slots j no_slot))) k no_slot).max_pp
spent-pp slots j n lt old here k h =
    at_one (λ i (s : MoveSlot). i < n → s.pp ≤ s.max_pp) slots j (spent (get_or slots j no_slot)) no_slot lt (λ i. omega (arith, here i)) k (λ _ i. old k i) h

-- the move of a slot stays
spent-mv : (slots : List MoveSlot) (j : ℕ) → j < length slots → (k : ℕ) → (get_or (set slots j (spent (get_or slots j no_slot))) k no_slot).mv ≡ (get_or slots k no_slot).mv
spent-mv slots j lt k = at_one (λ i (s : MoveSlot). s.mv ≡ (get_or slots i no_slot).mv) slots j (spent (get_or slots j no_slot)) no_slot lt refl k (λ _. refl)

use-member : (m : Member) (j : ℕ) → j < 4 → IsMember m → IsMember (with_use m j)
use-member m j lt v = record {
  level = v.level;
  level_high = v.level_high;
  types = v.types;
  stats = v.stats;
  hp = v.hp;
  max = v.max;
  max_high = v.max_high;
  counter = v.counter;
  four = simp length-set v.four;
  slot_count = v.slot_count;
  slot_count_high = v.slot_count_high;
  pp = spent-pp m.slots j m.slot_count (omega (arith, v.four)) v.pp (v.pp j);
}

use-copied : (c : CopiedSlots) (j : ℕ) → j < 4 → IsCopied c → IsCopied (copied_after_use c j)
use-copied c j lt v = record {
  four = simp length-set v.four;
  count = v.count;
  count_high = v.count_high;
  pp = spent-pp c.slots j c.count (omega (arith, v.four)) v.pp (v.pp j);
}

use-in-force : (o : Option CopiedSlots) (a : SideState) (j : ℕ) → o ≡ a.vol.slots.copied → j < 4 → IsSide a → IsSide (use_in_force o a j)
use-in-force None a j e lt v = record {
  shape = record { six = simp length-set v.shape.six; six_order = v.shape.six_order; count = v.shape.count; count_high = v.shape.count_high; order = v.shape.order; once = v.shape.once };
  members = λ k h. at_one (λ i (m : Member). i < a.count → IsMember m) a.members (active_index a) (with_use (active_of a) j) no_member (index-inside a v.shape)
      (λ i. use-member (active_of a) j lt (v.members (active_index a) i)) k (λ _. v.members k) h;
  vol = v.vol;
}
use-in-force (Some c) a j e lt v =
    let P : Option CopiedSlots → Type 0 = λ o. IfSome o IsCopied in
    let copied : IsCopied c = subst P (sym e) v.vol.slots.copied in
    let vol = v.vol in
    let shape = v.shape in
    record {
      shape = record { six = shape.six; six_order = shape.six_order; count = shape.count; count_high = shape.count_high; order = shape.order; once = shape.once };
      members = v.members;
      vol = record { stages = vol.stages; confusion = vol.confusion; substitute = vol.substitute; lock = vol.lock; disabled = vol.disabled; types = vol.types; stats = vol.stats; slots = record { four = vol.slots.four; copied = use-copied c j lt copied }; toxic = vol.toxic; taken = vol.taken };
    }

pub use-sound : (b : Battle) (u j : ℕ) → u < 2 → j < 4 → IsSound b → IsSound (after_use b u j)
unfolding after_use side_after_use
use-sound b u j lt inside v = record {
  two = simp length-set v.two;
  sides = λ s h. at_one (λ i (a : SideState). i < 2 → IsSide a) b.sides u (side_after_use (side_of b u) j) no_side (omega (arith, v.two))
      (λ i. use-in-force _ _ j refl inside (v.sides u i)) s (λ _. v.sides s) h;
  turn = v.turn;
  clauses = v.clauses;
}

use-known-in-force : (moves : ℕ) (o : Option CopiedSlots) (a : SideState) (j : ℕ) → o ≡ a.vol.slots.copied → j < 4 → IsSide a → IsSideKnown moves a → IsSideKnown moves (use_in_force o a j)
use-known-in-force moves None a j e lt v known = record {
  members = λ k h. at_one (λ x (m : Member). x < a.count → AreOwnKnown moves m) a.members (active_index a) (with_use (active_of a) j) no_member (index-inside a v.shape)
      (λ x i inside. rw (spent-mv (active_of a).slots j (omega (arith, (v.members (active_index a) x).four)) i) (known.members (active_index a) x i inside)) k (λ _. known.members k) h;
  vol = known.vol;
}
use-known-in-force moves (Some c) a j e lt v known =
    let P : Option CopiedSlots → Type 0 = λ o. IfSome o IsCopied in
    let Q : Option CopiedSlots → Type 0 = λ o. IfSome o (AreCopiedKnown moves) in
    let copied : IsCopied c = subst P (sym e) v.vol.slots.copied in
    let below : AreCopiedKnown moves c = subst Q (sym e) known.vol.slots.copied in
    record {
      members = known.members;
      vol = record {
        slots = record { mimic = known.vol.slots.mimic; copied = λ i inside. rw (spent-mv c.slots j (omega (arith, copied.four)) i) (below i inside) };
        lock = known.vol.lock;
        last = known.vol.last;
        taken = known.vol.taken;
      };
    }

pub use-known : (moves : ℕ) (b : Battle) (u j : ℕ) → u < 2 → j < 4 → IsSound b → AreKnown moves b → AreKnown moves (after_use b u j)
unfolding after_use side_after_use
use-known moves b u j lt inside v known = record {
  sides = λ s h. at_one (λ i (a : SideState). i < 2 → IsSideKnown moves a) b.sides u (side_after_use (side_of b u) j) no_side (omega (arith, v.two))
      (λ i. use-known-in-force moves _ _ j refl inside (v.sides u i) (known.sides u i)) s (λ _. known.sides s) h;
}

use-count-in-force : (o : Option CopiedSlots) (a : SideState) (j : ℕ) → o ≡ a.vol.slots.copied → IsShaped a → slot_count_now (use_in_force o a j) ≡ slot_count_now a
unfolding slot_count_now
use-count-in-force None a j e shape =
    let lt = index-inside a shape in
    let count : (active_of (use_in_force None a j)).slot_count ≡ (active_of a).slot_count = ap (λ (m : Member). m.slot_count) (get_or-set_same a.members (active_index a) (with_use (active_of a) j) no_member lt) in
    rw (← e) count
use-count-in-force (Some c) a j e shape = rw (← e) refl

use-order : (o : Option CopiedSlots) (a : SideState) (j : ℕ) → ((use_in_force o a j).count ≡ a.count) × ((use_in_force o a j).order ≡ a.order)
use-order None a j = (refl, refl)
use-order (Some c) a j = (refl, refl)

mimicked-mv : (mimic : Option ℕ) (x y : MoveSlot) → x.mv ≡ y.mv → (mimicked mimic x).mv ≡ (mimicked mimic y).mv
mimicked-mv None x y e = e
mimicked-mv (Some mv) x y e = refl

use-mv : (o : Option CopiedSlots) (a : SideState) (j i : ℕ) → o ≡ a.vol.slots.copied → j < 4 → IsSide a → (slot_now (use_in_force o a j) i).mv ≡ (slot_now a i).mv
unfolding slot_now
use-mv None a j i e lt v =
    let at = index-inside a v.shape in
    let four : length (active_of a).slots ≡ 4 = (v.members (active_index a) (v.shape.order 0 v.shape.count)).four in
    let is : slot_of (active_of (use_in_force None a j)) i ≡ slot_of (with_use (active_of a) j) i = ap (λ m. slot_of m i) (get_or-set_same a.members (active_index a) (with_use (active_of a) j) no_member at) in
    let same : (slot_of (active_of (use_in_force None a j)) i).mv ≡ (slot_of (active_of a) i).mv = ap (λ (s : MoveSlot). s.mv) is ∙ spent-mv (active_of a).slots j (omega (arith, four)) i in
    rw (← e) (mimicked-mv (get_or a.vol.slots.mimic i None) _ _ same)
use-mv (Some c) a j i e lt v =
    let P : Option CopiedSlots → Type 0 = λ o. IfSome o IsCopied in
    let copied : IsCopied c = subst P (sym e) v.vol.slots.copied in
    rw (← e) (spent-mv c.slots j (omega (arith, copied.four)) i)

use-team : (o : Option CopiedSlots) (a : SideState) (j : ℕ) → o ≡ a.vol.slots.copied → j < 4 → IsSide a → KeepsTeam a (use_in_force o a j)
use-team o a j e lt v = record { count = (use-order o a j).0; order = (use-order o a j).1; slot_count = use-count-in-force o a j e v.shape; moves = λ i. use-mv o a j i e lt v }

same-team : (a : SideState) → KeepsTeam a a
same-team a = record { count = refl; order = refl; slot_count = refl; moves = λ j. refl }

pub use-kept : (b : Battle) (u j : ℕ) → u < 2 → j < 4 → IsSound b → (s : ℕ) → s < 2 → Keeps s b (after_use b u j)
unfolding after_use side_after_use
use-kept b u j lt inside v s h = record {
  turn = refl;
  phase = refl;
  foe = at_one (λ i (a : SideState). KeepsTeam (side_of b i) a) b.sides u (side_after_use (side_of b u) j) no_side (omega (arith, v.two))
      (use-team _ _ j refl inside (v.sides u lt)) (1 - s) (λ _. same-team (side_of b (1 - s)));
}
