-- Writing what changed the slots of an active member.
use Rattle.std.specs.Prelude.{ℕ, Bool, true, false, Option, Some, None, [], ◌∷◌, nat_lt, slice_set, slice_index_or}
use Rattle.ps_mon.specs.declared.record.Battle.{Battle}
use Rattle.ps_mon.specs.declared.record.SideState.{SideState}
use Rattle.ps_mon.specs.declared.record.ChangedSlots.{ChangedSlots}
use Rattle.ps_mon.specs.declared.record.CopiedSlots.{CopiedSlots}
use Rattle.ps_mon.specs.declared.team.MoveSlot.{MoveSlot}
use Rattle.ps_mon.specs.Reading.{side_of, no_slot}
use Rattle.ps_mon.specs.Slots.{slot_count_now, slot_now}

abbrev pub with_changes : SideState → ChangedSlots → SideState
with_changes side slots = record side { vol = record side.vol { slots = slots } }

-- the battle where the slots of side `user` are changed so; nothing else of it is
unfoldable pub with_slots : Battle → ℕ → ChangedSlots → Battle
with_slots battle user slots = record battle { sides = slice_set battle.sides user (with_changes (side_of battle user) slots) }

-- a slot with another move; its PP and its greatest PP stay
abbrev pub with_move : MoveSlot → ℕ → MoveSlot
with_move slot mv = record slot { mv = mv }

abbrev pub copied_with : CopiedSlots → ℕ → ℕ → CopiedSlots
copied_with copied slot mv =
    record copied { slots = slice_set copied.slots slot (with_move (slice_index_or copied.slots slot no_slot) mv) }

-- a move in the place of a slot's own: in the slots that Transform copied, where there are such
abbrev pub mimic_in_force : Option CopiedSlots → ChangedSlots → ℕ → ℕ → ChangedSlots
mimic_in_force None slots slot mv = record slots { mimic = slice_set slots.mimic slot (Some mv) }
mimic_in_force (Some copied) slots slot mv = record slots { copied = Some (copied_with copied slot mv) }

unfoldable pub with_mimic : ChangedSlots → ℕ → ℕ → ChangedSlots
with_mimic slots slot mv = mimic_in_force slots.copied slots slot mv

-- a slot as Transform copies it: with 5 PP of 5
abbrev pub copied_slot : MoveSlot → MoveSlot
copied_slot slot = record { mv = slot.mv; pp = 5; max_pp = 5 }

-- a slot that is there, as Transform copies it
abbrev pub copied_if : Bool → MoveSlot → MoveSlot
copied_if true slot = copied_slot slot
copied_if false slot = no_slot

unfoldable pub copied_at : SideState → ℕ → MoveSlot
copied_at side slot = copied_if (nat_lt slot (slot_count_now side)) (slot_now side slot)

-- the slots in force of a side, as Transform copies them; no move of Mimic stays beside them
unfoldable pub copied_from : SideState → ChangedSlots
copied_from side = record {
  mimic = None ∷ None ∷ None ∷ None ∷ [];
  copied = Some (record {
    slots = copied_at side 0 ∷ copied_at side 1 ∷ copied_at side 2 ∷ copied_at side 3 ∷ [];
    count = slot_count_now side;
  });
}
