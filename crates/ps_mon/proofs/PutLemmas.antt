-- Putting a duel back: what stays.
use Rattle.std.proofs.Common.{◌≡◌, ℕ, ◌<◌, ◌≤◌, ◌-◌, Bool, true, subst, Option, Some, None, get_or, nat_lt, length, arith, refl, ap, ◌∙◌, inl, inr, get_or-set_same, length-set}
use Rattle.std.proofs.lemmas.Bool.Decides.{nat_tests}
use Rattle.ps_mon.specs.declared.record.Battle.{Battle}
use Rattle.ps_mon.specs.declared.record.SideState.{SideState}
use Rattle.ps_mon.specs.declared.record.Phase.{Phase}
use Rattle.ps_mon.specs.declared.record.Phase.TheVariants as phases
use Rattle.ps_mon.specs.declared.record.CopiedSlots.{CopiedSlots}
use Rattle.ps_mon.specs.declared.team.Member.{Member}
use Rattle.ps_mon.specs.declared.duel.Duel.{Duel}
use Rattle.ps_mon.specs.declared.duel.Fighter.{Fighter}
use Rattle.ps_mon.specs.Reading.{side_of, active_index, active_of, no_side, no_member}
use Rattle.ps_mon.specs.Slots.{slot_count_now, count_in_force, slot_now, slot_in_force}
use Rattle.ps_mon.specs.Valid.{IsSound, IsValid, IsSide, IsShaped, IsMember, AllStand, StandBefore, has_standing}
use Rattle.ps_mon.specs.Known.{AreKnown, IsSideKnown, AreOwnKnown, AreNamed}
use Rattle.ps_mon.specs.Keeping.{StillStands, KeepsTeam, Keeps}
use Rattle.ps_mon.specs.declared.team.MoveSlot.{MoveSlot}
use Rattle.ps_mon.specs.Duels.{IsFit, IsFighter, IsDuelKnown, with_fighter, with_duel, worn}
use Rattle.ps_mon.proofs.Lists.{at_one, at_user, at_foe, which_of, at_both, any-set}

pub index-inside : (a : SideState) → IsShaped a → active_index a < length a.members
index-inside a shape = omega (arith, shape.order 0 shape.count, shape.six, shape.count_high)

pub put-index : (a : SideState) (f : Fighter) → IsShaped a → active_of (with_fighter a f) ≡ worn (active_of a) f
unfolding with_fighter
put-index a f shape = let lt = index-inside a shape in rw get_or-set_same

put-shaped : (a : SideState) (f : Fighter) → IsShaped a → IsShaped (with_fighter a f)
unfolding with_fighter
put-shaped a f shape = record { six = simp length-set shape.six; six_order = shape.six_order; count = shape.count; count_high = shape.count_high; order = shape.order; once = shape.once }

put-side : (a : SideState) (f : Fighter) → IsFighter f → IsSide a → IsSide (with_fighter a f)
unfolding with_fighter
put-side a f fit v =
    let old = v.members (active_index a) (v.shape.order 0 v.shape.count) in
    let new : IsMember (worn (active_of a) f) = record { level = fit.level; level_high = fit.level_high; types = fit.types; stats = fit.stats; hp = fit.hp; max = fit.max; max_high = fit.max_high; counter = fit.counter; four = old.four; slot_count = old.slot_count; slot_count_high = old.slot_count_high; pp = old.pp } in
    let vol = fit.vol in
    record {
      shape = put-shaped a f v.shape;
      members = λ k lt. at_one (λ i (m : Member). i < a.count → IsMember m) a.members (active_index a) (worn (active_of a) f) no_member (index-inside a v.shape) (λ _. new) k (λ _. v.members k) lt;
      vol = record { stages = vol.stages; confusion = vol.confusion; substitute = vol.substitute; lock = vol.lock; disabled = vol.disabled; types = vol.types; stats = vol.stats; slots = v.vol.slots; toxic = vol.toxic; taken = vol.taken };
    }

pub put-sound : (b : Battle) (u : ℕ) (d : Duel) → u < 2 → IsFit d → IsSound b → IsSound (with_duel b u d)
unfolding with_duel
put-sound b u d lt fit v = record {
  two = simp length-set v.two;
  sides = at_both (λ _ a. IsSide a) b.sides u _ _ no_side lt v.two (put-side _ _ fit.user (v.sides u lt)) (put-side _ _ fit.foe (v.sides (1 - u) (omega arith)));
  turn = v.turn;
  clauses = v.clauses;
}

put-side-known : (moves : ℕ) (a : SideState) (f : Fighter) → IsShaped a → AreNamed moves f.vol → IsSideKnown moves a → IsSideKnown moves (with_fighter a f)
unfolding with_fighter
put-side-known moves a f shape named known = record {
  members = λ k lt. at_one (λ i (m : Member). i < a.count → AreOwnKnown moves m) a.members (active_index a) (worn (active_of a) f) no_member (index-inside a shape) (λ i. known.members (active_index a) i) k (λ _. known.members k) lt;
  vol = record { slots = known.vol.slots; lock = named.lock; last = named.last; taken = named.taken };
}

pub put-known : (moves : ℕ) (b : Battle) (u : ℕ) (d : Duel) → u < 2 → IsSound b → IsDuelKnown moves d → AreKnown moves b → AreKnown moves (with_duel b u d)
unfolding with_duel
put-known moves b u d lt v named known =
    let lt' : 1 - u < 2 = omega arith in
    record {
      sides = at_both (λ _ a. IsSideKnown moves a) b.sides u _ _ no_side lt v.two
          (put-side-known moves _ _ (v.sides u lt).shape named.user (known.sides u lt))
          (put-side-known moves _ _ (v.sides (1 - u) lt').shape named.foe (known.sides (1 - u) lt'));
    }

stands-again : (old new : ℕ) {f : ℕ} → new ≡ f → (1 ≤ old → 1 ≤ new) → nat_lt 0 old ≡ true → nat_lt 0 f ≡ true
stands-again old new {f} e keeps h = grind (arith, nat_tests)

-- a side has a standing member still, where its active one stands if it did
put-standing : (a : SideState) (f : Fighter) → IsShaped a → (1 ≤ (active_of a).hp → 1 ≤ (active_of (with_fighter a f)).hp) → has_standing a ≡ true → has_standing (with_fighter a f) ≡ true
unfolding with_fighter has_standing
put-standing a f shape keeps h =
    let is : active_of (with_fighter a f) ≡ worn (active_of a) f = put-index a f shape in
    let hp : (active_of (with_fighter a f)).hp ≡ f.hp = ap (λ (m : Member). m.hp) is in
    any-set (λ m. nat_lt 0 m.hp) a.members a.count (active_index a) (worn (active_of a) f) no_member (λ e. stands-again _ _ hp keeps e) h

pub before-kept : (phase : Phase) (a b : SideState) → (AllStand a → AllStand b) → StandBefore phase a → StandBefore phase b
before-kept phases.Preview a b keeps h = keeps h
before-kept phases.Turn a b keeps h = tt
before-kept (phases.Replace p1 p2) a b keeps h = tt
before-kept (phases.Won side) a b keeps h = tt
before-kept phases.Tied a b keeps h = tt

-- all members stand still, where the active one does
put-all : (a : SideState) (f : Fighter) → IsShaped a → (1 ≤ (active_of a).hp → 1 ≤ (active_of (with_fighter a f)).hp) → AllStand a → AllStand (with_fighter a f)
unfolding with_fighter
put-all a f shape keeps h =
    let is : active_of (with_fighter a f) ≡ worn (active_of a) f = put-index a f shape in
    let hp : (active_of (with_fighter a f)).hp ≡ f.hp = ap (λ (m : Member). m.hp) is in
    let there : active_index a < a.count = shape.order 0 shape.count in
    let up : 1 ≤ f.hp = subst (λ n. 1 ≤ n) hp (keeps (h (active_index a) there)) in
    λ k lt. at_one (λ i (m : Member). i < a.count → 1 ≤ m.hp) a.members (active_index a) (worn (active_of a) f) no_member (index-inside a shape) (λ _. up) k (λ _. h k) lt

pub put-whole : (b : Battle) (u : ℕ) (d : Duel) → u < 2 → IsValid b → StillStands b (with_duel b u d) → IsSound (with_duel b u d) → IsValid (with_duel b u d)
unfolding with_duel
put-whole b u d lt v still sound =
    let lt' : 1 - u < 2 = omega arith in
    record {
      sound = sound;
      standing = λ goes. (let old = v.standing goes in record {
        turn = old.turn;
        some = λ s h. (elim (which_of u s lt h) [
          | inl e ↦ rw e (rw (at_user b.sides u _ _ no_side lt v.sound.two) (put-standing _ _ (v.sound.sides u lt).shape (rw (at_user b.sides u _ _ no_side lt v.sound.two) at (still.active u lt)) (old.some u lt)))
          | inr e ↦ rw e (rw (at_foe b.sides u _ _ no_side lt v.sound.two) (put-standing _ _ (v.sound.sides (1 - u) lt').shape (rw (at_foe b.sides u _ _ no_side lt v.sound.two) at (still.active (1 - u) lt')) (old.some (1 - u) lt')))
        ]);
        before = λ s h. (elim (which_of u s lt h) [
          | inl e ↦ rw e (rw (at_user b.sides u _ _ no_side lt v.sound.two) (before-kept b.phase _ _ (put-all _ _ (v.sound.sides u lt).shape (rw (at_user b.sides u _ _ no_side lt v.sound.two) at (still.active u lt))) (old.before u lt)))
          | inr e ↦ rw e (rw (at_foe b.sides u _ _ no_side lt v.sound.two) (before-kept b.phase _ _ (put-all _ _ (v.sound.sides (1 - u) lt').shape (rw (at_foe b.sides u _ _ no_side lt v.sound.two) at (still.active (1 - u) lt'))) (old.before (1 - u) lt')))
        ]);
        active = λ s h stays. still.active s h (old.active s h stays);
      });
    }

worn-count : (copied : Option CopiedSlots) (m : Member) (f : Fighter) → count_in_force copied (worn m f) ≡ count_in_force copied m
worn-count None m f = refl
worn-count (Some c) m f = refl

put-count : (a : SideState) (f : Fighter) → IsShaped a → slot_count_now (with_fighter a f) ≡ slot_count_now a
unfolding slot_count_now with_fighter
put-count a f shape = ap (count_in_force a.vol.slots.copied) (put-index a f shape) ∙ worn-count a.vol.slots.copied (active_of a) f

worn-slot : (copied : Option CopiedSlots) (mimic : Option ℕ) (m : Member) (f : Fighter) (j : ℕ) → slot_in_force copied mimic (worn m f) j ≡ slot_in_force copied mimic m j
worn-slot None None m f j = refl
worn-slot None (Some mv) m f j = refl
worn-slot (Some c) mimic m f j = refl

put-slot : (a : SideState) (f : Fighter) (j : ℕ) → IsShaped a → slot_now (with_fighter a f) j ≡ slot_now a j
unfolding slot_now with_fighter
put-slot a f j shape =
    let mimic : Option ℕ = get_or a.vol.slots.mimic j None in
    ap (λ m. slot_in_force a.vol.slots.copied mimic m j) (put-index a f shape) ∙ worn-slot a.vol.slots.copied mimic (active_of a) f j

put-order : (a : SideState) (f : Fighter) → ((with_fighter a f).count ≡ a.count) × ((with_fighter a f).order ≡ a.order)
unfolding with_fighter
put-order a f = (refl, refl)

put-team : (a : SideState) (f : Fighter) → IsShaped a → KeepsTeam a (with_fighter a f)
put-team a f shape = record { count = (put-order a f).0; order = (put-order a f).1; slot_count = put-count a f shape; moves = λ j. ap (λ (slot : MoveSlot). slot.mv) (put-slot a f j shape) }

pub put-kept : (b : Battle) (u : ℕ) (d : Duel) → u < 2 → IsSound b → (s : ℕ) → s < 2 → Keeps s b (with_duel b u d)
unfolding with_duel
put-kept b u d lt v s h = record {
  turn = refl;
  phase = refl;
  foe = at_both (λ i a. KeepsTeam (side_of b i) a) b.sides u _ _ no_side lt v.two (put-team _ _ (v.sides u lt).shape) (put-team _ _ (v.sides (1 - u) (omega arith)).shape) (1 - s) (omega arith);
}
