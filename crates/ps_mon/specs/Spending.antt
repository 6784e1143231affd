-- A use of a slot.
use Rattle.std.specs.Prelude.{ℕ, Option, Some, None, ◌-◌, slice_set, slice_index_or}
use Rattle.ps_mon.specs.declared.record.Battle.{Battle}
use Rattle.ps_mon.specs.declared.record.SideState.{SideState}
use Rattle.ps_mon.specs.declared.record.CopiedSlots.{CopiedSlots}
use Rattle.ps_mon.specs.declared.team.Member.{Member}
use Rattle.ps_mon.specs.declared.team.MoveSlot.{MoveSlot}
use Rattle.ps_mon.specs.Reading.{side_of, active_index, active_of, slot_of, no_slot}

abbrev pub spent : MoveSlot → MoveSlot
spent slot = record slot { pp = slot.pp - 1 }

abbrev pub with_use : Member → ℕ → Member
with_use member slot = record member { slots = slice_set member.slots slot (spent (slot_of member slot)) }

abbrev pub copied_after_use : CopiedSlots → ℕ → CopiedSlots
copied_after_use copied slot = record copied { slots = slice_set copied.slots slot (spent (slice_index_or copied.slots slot no_slot)) }

-- PP falls in the copied slots alone where there are such, else in the member's own
abbrev pub use_in_force : Option CopiedSlots → SideState → ℕ → SideState
use_in_force None side slot =
    record side { members = slice_set side.members (active_index side) (with_use (active_of side) slot) }
use_in_force (Some copied) side slot =
    record side { vol = record side.vol { slots = record side.vol.slots { copied = Some (copied_after_use copied slot) } } }

unfoldable pub side_after_use : SideState → ℕ → SideState
side_after_use side slot = use_in_force side.vol.slots.copied side slot

-- the active member of a side has used a slot
unfoldable pub after_use : Battle → ℕ → ℕ → Battle
after_use battle side slot = record battle { sides = slice_set battle.sides side (side_after_use (side_of battle side) slot) }
