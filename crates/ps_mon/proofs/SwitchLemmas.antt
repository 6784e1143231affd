-- A switch: what stays, and who is active after it.
use Rattle.std.proofs.Common.{◌≡◌, ℕ, zero, suc, ◌<◌, ◌≤◌, ◌-◌, true, Option, Some, None, IfSome, [], ◌∷◌, nat_lt, length, get_or, arith, rules, refl, ap, ◌∙◌, sym, subst, length-set}
use Rattle.std.proofs.lemmas.List.Edits.{length-swap}
use Rattle.ps_mon.specs.declared.record.Battle.{Battle}
use Rattle.ps_mon.specs.declared.record.SideState.{SideState}
use Rattle.ps_mon.specs.declared.record.Lock.{Lock}
use Rattle.ps_mon.specs.declared.record.LockKind.{LockKind}
use Rattle.ps_mon.specs.declared.record.LockKind.TheVariants.{Charge, Trap, Thrash, Bide, Rage}
use Rattle.ps_mon.specs.declared.team.Member.{Member}
use Rattle.ps_mon.specs.Reading.{side_of, active_index, member_of, member_at, active_of, no_side, no_member}
use Rattle.ps_mon.specs.Valid.{IsSound, IsSide, IsShaped, IsMember, IsLock, AreVolatiles, has_standing}
use Rattle.ps_mon.specs.Known.{AreKnown, IsSideKnown, AreOwnKnown, AreNamed}
use Rattle.ps_mon.specs.Keeping.{KeepsTeam, Keeps}
use Rattle.ps_mon.specs.Slots.{slot_count_now, slot_now}
use Rattle.ps_mon.specs.Teams.{calm}
use Rattle.ps_mon.specs.Switching.{left, came_in, let_go, without_trap, released, with_switch}
use Rattle.ps_mon.proofs.Lists.{at_one, at_user, at_foe, at_both, any-set, swap-below, swap-first, swap-once}
use Rattle.ps_mon.proofs.PutLemmas.{index-inside}

no-mimic : (P : Option ℕ → Type 0) → P None → (j : ℕ) → P (get_or (None ∷ None ∷ None ∷ None ∷ []) j None)
no-mimic P none zero = none
no-mimic P none (suc zero) = none
no-mimic P none (suc (suc zero)) = none
no-mimic P none (suc (suc (suc zero))) = none
no-mimic P none (suc (suc (suc (suc j)))) = none

pub calm-fit : AreVolatiles calm
calm-fit = search rules

pub calm-named : (moves : ℕ) → AreNamed moves calm
calm-named moves = record {
  slots = record { mimic = no-mimic (λ o. IfSome o (λ mv. mv < moves)) tt; copied = tt };
  lock = tt;
  last = tt;
  taken = tt;
}

came-shaped : (a : SideState) (p : ℕ) → 1 ≤ p → p ≤ a.count → IsShaped a → IsShaped (came_in a p)
unfolding came_in
came-shaped a p low high shape =
    let lt : p - 1 < a.count = omega arith in
    let long : a.count ≤ length a.order = omega (arith, shape.six_order, shape.count_high) in
    record {
      six = simp length-set shape.six;
      six_order = length-swap a.order 0 (p - 1) ∙ shape.six_order;
      count = shape.count;
      count_high = shape.count_high;
      order = swap-below a.order (p - 1) a.count lt long shape.order;
      once = swap-once a.order (p - 1) a.count lt long shape.once;
    }

left-member : (m : Member) → IsMember m → IsMember (left m)
left-member m v = record { level = v.level; level_high = v.level_high; types = v.types; stats = v.stats; hp = v.hp; max = v.max; max_high = v.max_high; counter = v.counter; four = v.four; slot_count = v.slot_count; slot_count_high = v.slot_count_high; pp = v.pp }

came-side : (a : SideState) (p : ℕ) → 1 ≤ p → p ≤ a.count → IsSide a → IsSide (came_in a p)
unfolding came_in
came-side a p low high v = record {
  shape = came-shaped a p low high v.shape;
  members = λ k h. at_one (λ i (m : Member). i < a.count → IsMember m) a.members (active_index a) (left (active_of a)) no_member (index-inside a v.shape)
      (λ i. left-member (active_of a) (v.members (active_index a) i)) k (λ _. v.members k) h;
  vol = calm-fit;
}

came-known : (moves : ℕ) (a : SideState) (p : ℕ) → IsShaped a → IsSideKnown moves a → IsSideKnown moves (came_in a p)
unfolding came_in
came-known moves a p shape known = record {
  members = λ k h. at_one (λ i (m : Member). i < a.count → AreOwnKnown moves m) a.members (active_index a) (left (active_of a)) no_member (index-inside a shape)
      (λ i. known.members (active_index a) i) k (λ _. known.members k) h;
  vol = calm-named moves;
}

came-standing : (a : SideState) (p : ℕ) → has_standing a ≡ true → has_standing (came_in a p) ≡ true
unfolding came_in has_standing
came-standing a p h = any-set (λ m. nat_lt 0 m.hp) a.members a.count (active_index a) (left (active_of a)) no_member (λ e. e) h

came-hp : (a : SideState) (p : ℕ) → 1 ≤ p → p ≤ a.count → IsShaped a → (active_of (came_in a p)).hp ≡ (member_at a p).hp
unfolding came_in
came-hp a p low high shape =
    let first : active_index (came_in a p) ≡ get_or a.order (p - 1) 0 = swap-first a.order (p - 1) (omega (arith, shape.six_order, shape.count_high)) in
    let hp : (k : ℕ) → (member_of (came_in a p) k).hp ≡ (member_of a k).hp = λ k. at_one (λ i (m : Member). m.hp ≡ (member_of a i).hp) a.members (active_index a) (left (active_of a)) no_member (index-inside a shape) refl k (λ _. refl) in
    hp (active_index (came_in a p)) ∙ ap (λ i. (member_of a i).hp) first

let-go-fit : (P : Lock → Type 0) (kind : LockKind) (lock : Lock) → P lock → IfSome (let_go kind lock) P
let-go-fit P (Charge away) lock h = h
let-go-fit P Trap lock h = tt
let-go-fit P Thrash lock h = h
let-go-fit P Bide lock h = h
let-go-fit P Rage lock h = h

freed-fit : (P : Lock → Type 0) (o : Option Lock) → IfSome o P → IfSome (without_trap o) P
freed-fit P None h = tt
freed-fit P (Some lock) h = let-go-fit P lock.kind lock h

released-side : (a : SideState) → IsSide a → IsSide (released a)
unfolding released
released-side a v =
    let vol = v.vol in
    let shape = v.shape in
    record {
      shape = record { six = shape.six; six_order = shape.six_order; count = shape.count; count_high = shape.count_high; order = shape.order; once = shape.once };
      members = v.members;
      vol = record { stages = vol.stages; confusion = vol.confusion; substitute = vol.substitute; lock = freed-fit IsLock a.vol.lock vol.lock; disabled = vol.disabled; types = vol.types; stats = vol.stats; slots = vol.slots; toxic = vol.toxic; taken = vol.taken };
    }

released-known : (moves : ℕ) (a : SideState) → IsSideKnown moves a → IsSideKnown moves (released a)
unfolding released
released-known moves a known = record {
  members = known.members;
  vol = record { slots = known.vol.slots; lock = freed-fit (λ l. l.mv < moves) a.vol.lock known.vol.lock; last = known.vol.last; taken = known.vol.taken };
}

released-standing : (a : SideState) → has_standing (released a) ≡ has_standing a
unfolding released has_standing
released-standing a = refl

pub switch-sound : (b : Battle) (s p : ℕ) → s < 2 → 1 ≤ p → p ≤ (side_of b s).count → IsSound b → IsSound (with_switch b s p)
unfolding with_switch
switch-sound b s p lt low high v = record {
  two = simp length-set v.two;
  sides = at_both (λ _ a. IsSide a) b.sides s _ _ no_side lt v.two (came-side _ p low high (v.sides s lt)) (released-side _ (v.sides (1 - s) (omega arith)));
  turn = v.turn;
  clauses = v.clauses;
}

pub switch-known : (moves : ℕ) (b : Battle) (s p : ℕ) → s < 2 → IsSound b → AreKnown moves b → AreKnown moves (with_switch b s p)
unfolding with_switch
switch-known moves b s p lt v known = record {
  sides = at_both (λ _ a. IsSideKnown moves a) b.sides s _ _ no_side lt v.two (came-known moves _ p (v.sides s lt).shape (known.sides s lt)) (released-known moves _ (known.sides (1 - s) (omega arith)));
}

pub switch-some : (b : Battle) (s p : ℕ) → s < 2 → IsSound b → (i : ℕ) → i < 2 → has_standing (side_of b i) ≡ true → has_standing (side_of (with_switch b s p) i) ≡ true
unfolding with_switch
switch-some b s p lt v i h =
    at_both (λ i a. has_standing (side_of b i) ≡ true → has_standing a ≡ true) b.sides s _ _ no_side lt v.two (came-standing _ p) (λ e. released-standing _ ∙ e) i h

pub switch-own : (b : Battle) (s p : ℕ) → s < 2 → IsSound b → side_of (with_switch b s p) s ≡ came_in (side_of b s) p
unfolding with_switch
switch-own b s p lt v = at_user b.sides s _ _ no_side lt v.two

pub switch-came : (b : Battle) (s p : ℕ) → s < 2 → 1 ≤ p → p ≤ (side_of b s).count → IsSound b → (active_of (side_of (with_switch b s p) s)).hp ≡ (member_at (side_of b s) p).hp
switch-came b s p lt low high v =
    ap (λ a. (active_of a).hp) (switch-own b s p lt v) ∙ came-hp (side_of b s) p low high (v.sides s lt).shape

pub switch-foe : (b : Battle) (s p : ℕ) → s < 2 → IsSound b → side_of (with_switch b s p) (1 - s) ≡ released (side_of b (1 - s))
unfolding with_switch
switch-foe b s p lt v = at_foe b.sides s _ _ no_side lt v.two

pub released-team : (a : SideState) → KeepsTeam a (released a)
unfolding released slot_count_now slot_now
released-team a = record { count = refl; order = refl; slot_count = refl; moves = λ j. refl }

frame : (b : Battle) (s p : ℕ) → ((with_switch b s p).turn ≡ b.turn) × ((with_switch b s p).phase ≡ b.phase)
unfolding with_switch
frame b s p = (refl, refl)

pub switch-kept : (b : Battle) (s p : ℕ) → s < 2 → IsSound b → Keeps s b (with_switch b s p)
switch-kept b s p lt v =
    let P : SideState → Type 0 = KeepsTeam (side_of b (1 - s)) in
    record { turn = (frame b s p).0; phase = (frame b s p).1; foe = subst P (sym (switch-foe b s p lt v)) (released-team _) }

came-count : (a : SideState) (p : ℕ) → (came_in a p).count ≡ a.count
unfolding came_in
came-count a p = refl

pub switch-count : (b : Battle) (s p : ℕ) → s < 2 → IsSound b → (side_of (with_switch b s p) s).count ≡ (side_of b s).count
switch-count b s p lt v = ap (λ (a : SideState). a.count) (switch-own b s p lt v) ∙ came-count (side_of b s) p
