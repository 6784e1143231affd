-- The slots in force: a member's own, those with a move of Mimic, or those that Transform copied.
use Rattle.std.specs.Prelude.{ℕ, Bool, false, Option, Some, None, ◌&&◌, ◌||◌, ◌==◌, not, nat_lt, slice_index_or}
use Rattle.ps_mon.specs.declared.record.SideState.{SideState}
use Rattle.ps_mon.specs.declared.record.CopiedSlots.{CopiedSlots}
use Rattle.ps_mon.specs.declared.record.Disabled.{Disabled}
use Rattle.ps_mon.specs.declared.team.Member.{Member}
use Rattle.ps_mon.specs.declared.team.MoveSlot.{MoveSlot}
use Rattle.ps_mon.specs.Reading.{active_of, slot_of, no_slot}

-- Mimic changes a slot's move, not its PP
abbrev pub mimicked : Option ℕ → MoveSlot → MoveSlot
mimicked None slot = slot
mimicked (Some mv) slot = record slot { mv = mv }

-- how many slots are in force
abbrev pub count_in_force : Option CopiedSlots → Member → ℕ
count_in_force None member = member.slot_count
count_in_force (Some copied) member = copied.count

unfoldable pub slot_count_now : SideState → ℕ
slot_count_now side = count_in_force side.vol.slots.copied (active_of side)

-- a slot in force
abbrev pub slot_in_force : Option CopiedSlots → Option ℕ → Member → ℕ → MoveSlot
slot_in_force None mimic member slot = mimicked mimic (slot_of member slot)
slot_in_force (Some copied) mimic member slot = slice_index_or copied.slots slot no_slot

unfoldable pub slot_now : SideState → ℕ → MoveSlot
slot_now side slot =
    slot_in_force side.vol.slots.copied (slice_index_or side.vol.slots.mimic slot None) (active_of side) slot

-- whether a slot is disabled
abbrev pub is_disabled : Option Disabled → ℕ → Bool
is_disabled None slot = false
is_disabled (Some disabled) slot = disabled.slot == slot

-- whether a slot is there and has PP left
unfoldable pub is_ready : SideState → ℕ → Bool
is_ready side slot = nat_lt slot (slot_count_now side) && nat_lt 0 (slot_now side slot).pp

-- whether a slot can be chosen
unfoldable pub is_usable : SideState → ℕ → Bool
is_usable side slot = is_ready side slot && not (is_disabled side.vol.disabled slot)

unfoldable pub has_usable : SideState → Bool
has_usable side = is_usable side 0 || is_usable side 1 || is_usable side 2 || is_usable side 3
