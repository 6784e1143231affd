-- Which move a choice uses.
use Rattle.std.specs.Prelude.{ℕ, ℤ, pos, Bool, true, false, Option, Some, None, ◌-◌}
use Rattle.ps_mon.specs.declared.choice.Choice.{Choice}
use Rattle.ps_mon.specs.declared.choice.Choice.TheVariants as choices
use Rattle.ps_mon.specs.Facts.{Figures}
use Rattle.ps_mon.specs.declared.record.Lock.{Lock}
use Rattle.ps_mon.specs.declared.record.SideState.{SideState}
use Rattle.ps_mon.specs.Slots.{slot_now}
use Rattle.ps_mon.specs.Moves.{move_of, struggle_number}

-- the choices that are acts; switches are done before
abbrev pub is_act : Choice → Bool
is_act (choices.Move number) = true
is_act choices.Struggle = true
is_act choices.Continue = true
is_act choice = false

-- the move in a slot, which counts from 1
unfoldable pub chosen_slot : SideState → ℕ → ℕ
chosen_slot side number = (slot_now side (number - 1)).mv

abbrev pub locked_move : Option Lock → Option ℕ
locked_move None = None
locked_move (Some lock) = Some lock.mv

-- the move that a choice uses: a Continue goes on with its lock's, and without one it recharges
unfoldable pub chosen_move : SideState → Choice → Option ℕ
chosen_move side (choices.Move number) = Some (chosen_slot side number)
chosen_move side choices.Struggle = Some struggle_number
chosen_move side choices.Continue = locked_move side.vol.lock
chosen_move side choice = None

-- that of the move, 0 where there is none
abbrev pub priority_by : Figures → Option ℕ → ℤ
priority_by facts None = pos 0
priority_by facts (Some mv) = (move_of facts mv).priority

unfoldable pub priority_of : Figures → SideState → Choice → ℤ
priority_of facts side choice = priority_by facts (chosen_move side choice)
