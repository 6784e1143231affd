-- A switch: the active member changes places with another one.
use Rattle.std.specs.Prelude.{ℕ, Option, Some, None, ◌-◌, slice_set}
use Rattle.std.specs.List.{swap}
use Rattle.ps_mon.specs.declared.record.Battle.{Battle}
use Rattle.ps_mon.specs.declared.record.SideState.{SideState}
use Rattle.ps_mon.specs.declared.record.Lock.{Lock}
use Rattle.ps_mon.specs.declared.record.LockKind.{LockKind}
use Rattle.ps_mon.specs.declared.record.LockKind.TheVariants.{Trap}
use Rattle.ps_mon.specs.declared.team.Member.{Member}
use Rattle.ps_mon.specs.declared.status.Status.{Status}
use Rattle.ps_mon.specs.declared.status.Status.TheVariants.{Psn, Tox}
use Rattle.ps_mon.specs.Reading.{side_of, active_index, active_of}
use Rattle.ps_mon.specs.Teams.{calm}

-- bad poison becomes a plain one
abbrev pub milder : Status → Status
milder Tox = Psn
milder status = status

abbrev pub left : Member → Member
left member = record member { status = milder member.status }

-- the member at a position, which counts from 1, comes in
unfoldable pub came_in : SideState → ℕ → SideState
came_in side position =
    record side {
      order = swap side.order 0 (position - 1);
      members = slice_set side.members (active_index side) (left (active_of side));
      vol = calm;
    }

-- a trap's lock ends, no other
abbrev pub let_go : LockKind → Lock → Option Lock
let_go Trap lock = None
let_go kind lock = Some lock

abbrev pub without_trap : Option Lock → Option Lock
without_trap None = None
without_trap (Some lock) = let_go lock.kind lock

unfoldable pub released : SideState → SideState
released side = record side { vol = record side.vol { lock = without_trap side.vol.lock } }

-- a side has sent in the member at a position, which the foe's trap kept in no more
unfoldable pub with_switch : Battle → ℕ → ℕ → Battle
with_switch battle side position =
    record battle {
      sides = slice_set (slice_set battle.sides side (came_in (side_of battle side) position)) (1 - side)
          (released (side_of battle (1 - side)));
    }
