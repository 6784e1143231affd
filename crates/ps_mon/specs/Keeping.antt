-- What stays between two records of a battle.
use Rattle.std.specs.Prelude.{◌≡◌, ℕ, ◌-◌, ◌<◌, ◌≤◌}
use Rattle.ps_mon.specs.declared.record.Battle.{Battle}
use Rattle.ps_mon.specs.declared.record.SideState.{SideState}
use Rattle.ps_mon.specs.Reading.{side_of, active_of}
use Rattle.ps_mon.specs.Slots.{slot_count_now, slot_now}

-- nobody fainted: an active member that stood stands still
pub record StillStands (old new : Battle) : Type 0 where
  pub active : (side : ℕ) → side < 2 → 1 ≤ (active_of (side_of old side)).hp → 1 ≤ (active_of (side_of new side)).hp

-- a side has the same order, and its active member the same moves
pub record KeepsTeam (old new : SideState) : Type 0 where
  pub count : new.count ≡ old.count
  pub order : new.order ≡ old.order
  pub slot_count : slot_count_now new ≡ slot_count_now old
  pub moves : (slot : ℕ) → (slot_now new slot).mv ≡ (slot_now old slot).mv

-- what an act of side `user` keeps: the turn, the phase, and the other side's order and moves
pub record Keeps (user : ℕ) (old new : Battle) : Type 0 where
  pub turn : new.turn ≡ old.turn
  pub phase : new.phase ≡ old.phase
  pub foe : KeepsTeam (side_of old (1 - user)) (side_of new (1 - user))
