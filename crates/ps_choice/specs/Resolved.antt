-- The choice that a player's wish stands for. It looks at the phase, the dex and the own side alone.
use Rattle.std.specs.Prelude.{ℕ, ◌+◌, Bool, false, not, ◌&&◌, ◌==◌, nat_lt, List, codes, take, drop, position, Option, Some, None}
use Rattle.std.specs.Prelude.{Result, Ok, Err, ok_or, option_map, if◌then◌else◌}
use Rattle.std.specs.Str.{bytes_eq}
use Rattle.ps_base.specs.Ids.{id_of}
use Rattle.ps_mon.specs.declared.record.Lock.{Lock}
use Rattle.ps_mon.specs.declared.record.Phase.{Phase}
use Rattle.ps_mon.specs.declared.record.Phase.TheVariants as phases
use Rattle.ps_mon.specs.declared.record.SideState.{SideState}
use Rattle.ps_mon.specs.declared.choice.Choice.{Choice}
use Rattle.ps_mon.specs.declared.choice.Choice.TheVariants as choices
use Rattle.ps_mon.specs.declared.choice.ChoiceFault.{ChoiceFault}
use Rattle.ps_mon.specs.declared.choice.ChoiceFault.TheVariants as faults
use Rattle.ps_mon.specs.Reading.{member_of}
use Rattle.ps_mon.specs.Slots.{slot_count_now, slot_now, is_usable, has_usable}
use Rattle.ps_mon.specs.Choices.{is_asked, is_locked, wrong_for_act, fault_of}
use Rattle.ps_dex.specs.declared.item.Tables.{Tables}
use Rattle.ps_dex.specs.Lookups.{move_of}
use Rattle.ps_choice.specs.declared.resolution.Absent.{Absent}
use Rattle.ps_choice.specs.declared.resolution.Absent.TheVariants as absents
use Rattle.ps_choice.specs.Orders.{whole, nobody, order_of}
use Rattle.ps_choice.specs.Wants.{Want, Slot, Named, Position, Team, Default}

-- ---- slots, which count from 1

-- which of four is the first, from 1
abbrev pub first_of : Bool → Bool → Bool → Bool → Option ℕ
first_of first second third fourth =
    if first then Some 1 else (if second then Some 2 else (if third then Some 3 else (if fourth then Some 4 else None)))

-- the lowest usable slot
unfoldable pub lowest_usable : SideState → Option ℕ
lowest_usable side = first_of (is_usable side 0) (is_usable side 1) (is_usable side 2) (is_usable side 3)

-- whether a slot, from 0, is there and has a move
unfoldable pub has_move_at : SideState → ℕ → ℕ → Bool
has_move_at side mv slot = nat_lt slot (slot_count_now side) && (slot_now side slot).mv == mv

-- the lowest slot with a move
unfoldable pub slot_with : SideState → ℕ → Option ℕ
slot_with side mv = first_of (has_move_at side mv 0) (has_move_at side mv 1) (has_move_at side mv 2) (has_move_at side mv 3)

-- ---- what comes first

-- the lowest usable slot, or Struggle where none is
abbrev pub act_at : Option ℕ → Choice
act_at None = choices.Struggle
act_at (Some slot) = choices.Move slot

-- in a turn: to go on, then Struggle, then the lowest usable slot
unfoldable pub first_act : SideState → Choice
first_act side = if is_locked side then choices.Continue else act_at (lowest_usable side)

-- the positions from 2, as indices in the team
abbrev pub bench : SideState → List ℕ
bench side = drop 1 (take side.count side.order)

-- the first of them whose member stands, from 0
unfoldable pub first_standing : SideState → Option ℕ
first_standing side = position (λ index. nat_lt 0 (member_of side index).hp) (bench side)

-- none, where none of them stands
abbrev pub replacement : Option ℕ → Option Choice
replacement None = None
replacement (Some place) = Some (choices.Switch (place + 2))

-- before members are sent out the order as it stands
abbrev pub by_default : Phase → SideState → Option Choice
by_default phases.Preview side = Some (choices.Team (whole side.count nobody))
by_default (phases.Replace first second) side = replacement (first_standing side)
by_default other side = Some (first_act side)

-- ---- a slot by its number

-- `move 1` also goes on, and is Struggle where no slot is usable
unfoldable pub numbered : SideState → ℕ → Choice
numbered side number = if number == 1 && is_locked side then choices.Continue else
    (if number == 1 && not (has_usable side) then choices.Struggle else choices.Move number)

-- ---- a slot by its move

abbrev pub is_number : Option ℕ → ℕ → Bool
is_number None mv = false
is_number (Some found) mv = found == mv

abbrev pub is_lock_name : Tables → Option Lock → List ℕ → Bool
is_lock_name dex None name = false
is_lock_name dex (Some lock) name = is_number (move_of (id_of name) dex) lock.mv

-- whether a text names what holds the member: `recharge`, or the long move by its id or an alias
unfoldable pub is_locked_name : Tables → SideState → List ℕ → Bool
is_locked_name dex side name = if side.vol.recharge then bytes_eq (id_of name) (codes "recharge") else is_lock_name dex side.vol.lock name

-- none, where the text isn't the hold's name
abbrev pub going_on : Bool → Option Choice
going_on named = if named then Some choices.Continue else None

-- the lowest slot with the move; none, where no slot has it or no move has the name
abbrev pub slot_of_move : SideState → Option ℕ → Option Choice
slot_of_move side None = None
slot_of_move side (Some mv) = option_map choices.Move (slot_with side mv)

-- whether a text is Struggle's name where no slot is usable
unfoldable pub is_struggle : SideState → List ℕ → Bool
is_struggle side name = bytes_eq (id_of name) (codes "struggle") && not (has_usable side)

unfoldable pub named : Tables → SideState → List ℕ → Option Choice
named dex side name =
    if is_locked side then going_on (is_locked_name dex side name)
    else (if is_struggle side name then Some choices.Struggle else slot_of_move side (move_of (id_of name) dex))

-- ---- all wishes

-- the choice that a wish stands for, or what it wishes for that isn't there
abbrev pub meant : Phase → SideState → Tables → Want → Result Choice Absent
meant phase side dex (Slot number) = Ok (numbered side number)
meant phase side dex (Named name) = ok_or (named dex side name) absents.Move
meant phase side dex (Position number) = Ok (choices.Switch number)
meant phase side dex (Team digits) = Ok (choices.Team (order_of side.count digits))
meant phase side dex Default = ok_or (by_default phase side) absents.Member

-- where no slot has the move of a name, the faults of the phase and of a lock come first
abbrev pub no_move : Phase → SideState → ChoiceFault
no_move phase side = if wrong_for_act phase then faults.WrongPhase else (if is_locked side then faults.Locked else faults.NoSuchMove)

-- no member can be sent in only where one must be, so that no other fault comes first
abbrev pub fault_when_asked : Phase → SideState → Absent → ChoiceFault
fault_when_asked phase side absents.Move = no_move phase side
fault_when_asked phase side absents.Member = faults.NoSuchMember

-- the first fault of a wish for what isn't there
abbrev pub fault_of_absent : Phase → ℕ → SideState → Absent → ChoiceFault
fault_of_absent phase side_number side absent =
    if is_asked phase side_number then fault_when_asked phase side absent else faults.NotYourTurn

abbrev pub judged : Choice → Option ChoiceFault → Result Choice ChoiceFault
judged choice None = Ok choice
judged choice (Some fault) = Err fault

abbrev pub settled : Phase → ℕ → SideState → Result Choice Absent → Result Choice ChoiceFault
settled phase side_number side (Ok choice) = judged choice (fault_of phase side_number side choice)
settled phase side_number side (Err absent) = Err (fault_of_absent phase side_number side absent)

-- that choice where it is legal, else the first fault
abbrev pub resolved : Phase → ℕ → SideState → Tables → Want → Result Choice ChoiceFault
resolved phase side_number side dex want = settled phase side_number side (meant phase side dex want)
