-- A battle at its opening.
use Rattle.std.proofs.Common.{◌≡◌, ℕ, ◌<◌, ◌≤◌, true, false, [], ◌∷◌, get_or, arith, refl}
use Rattle.ps_mon.specs.declared.record.SideState.{SideState}
use Rattle.ps_mon.specs.declared.record.Phase.{Phase}
use Rattle.ps_mon.specs.declared.record.Phase.TheVariants as phases
use Rattle.ps_mon.specs.Reading.{active_of, no_side}
use Rattle.ps_mon.specs.Valid.{IsSide, IsValid, AllStand, StandBefore, has_standing, is_over, replaces}
use Rattle.ps_mon.proofs.SideLemmas.{each_side}

stand-before : (phase : Phase) (a : SideState) → AllStand a → StandBefore phase a
stand-before phases.Preview a h = h
stand-before phases.Turn a h = tt
stand-before (phases.Replace p1 p2) a h = tt
stand-before (phases.Won side) a h = tt
stand-before phases.Tied a h = tt

-- a side of which all members stand, the first one among them
pub record IsReady (a : SideState) : Type 0 where
  pub side : IsSide a
  pub some : has_standing a ≡ true
  pub active : 1 ≤ (active_of a).hp
  pub stand : AllStand a

pub opened-valid : (one two : SideState) (phase : Phase) (clauses rng : ℕ) → clauses < 256 → IsReady one → IsReady two → IsValid (record { sides = one ∷ two ∷ []; turn = 1; phase = phase; clauses = clauses; rng = rng })
opened-valid one two phase clauses rng lt first second = record {
  sound = record {
    two = refl;
    sides = each_side (λ s. IsSide (get_or (one ∷ two ∷ []) s no_side)) first.side second.side;
    turn = omega arith;
    clauses = lt;
  };
  standing = λ goes. record {
    turn = omega arith;
    some = each_side (λ s. has_standing (get_or (one ∷ two ∷ []) s no_side) ≡ true) first.some second.some;
    before = each_side (λ s. StandBefore phase (get_or (one ∷ two ∷ []) s no_side)) (stand-before phase one first.stand) (stand-before phase two second.stand);
    active = each_side (λ s. replaces phase s ≡ false → 1 ≤ (active_of (get_or (one ∷ two ∷ []) s no_side)).hp) (λ e. first.active) (λ e. second.active);
  };
}
