-- Which choices are legal: the table of faults, a row each, the first that holds reported.
use Rattle.std.specs.Prelude.{◌≤◌, ◌≡◌, ℕ, Bool, true, false, Option, Some, None, is_some, ◌-◌, ◌||◌, ◌==◌, not, nat_lt}
use Rattle.ps_mon.specs.declared.record.Battle.{Battle}
use Rattle.ps_mon.specs.declared.record.SideState.{SideState}
use Rattle.ps_mon.specs.declared.record.Phase.{Phase}
use Rattle.ps_mon.specs.declared.record.Phase.TheVariants as phases
use Rattle.ps_mon.specs.declared.choice.Choice.{Choice}
use Rattle.ps_mon.specs.declared.choice.Choice.TheVariants as choices
use Rattle.ps_mon.specs.declared.choice.ChoiceFault.{ChoiceFault}
use Rattle.ps_mon.specs.declared.choice.ChoiceFault.TheVariants as faults
use Rattle.ps_mon.specs.declared.team.Member.{Member}
use Rattle.ps_mon.specs.Reading.{side_of, active_of, member_at}
use Rattle.ps_mon.specs.Slots.{slot_count_now, slot_now, is_disabled, has_usable}
use Rattle.ps_mon.specs.Valid.{replaces}
use Rattle.ps_mon.specs.Orders.{is_order}

-- a side is asked for its order, in a turn, and where it must send in another member
abbrev pub is_asked : Phase → ℕ → Bool
is_asked phases.Preview side = true
is_asked phases.Turn side = true
is_asked (phases.Replace first second) side = replaces (phases.Replace first second) side
is_asked other side = false

-- an order is for Team Preview alone
abbrev pub wrong_for_order : Phase → Bool
wrong_for_order phases.Preview = false
wrong_for_order other = true

abbrev pub wrong_for_switch : Phase → Bool
wrong_for_switch phases.Preview = true
wrong_for_switch other = false

abbrev pub wrong_for_act : Phase → Bool
wrong_for_act phases.Preview = true
wrong_for_act (phases.Replace first second) = true
wrong_for_act other = false

-- a side that is asked passes, a move is chosen where a member must come in, something else than an order where one is asked for, or
-- an order where none is
abbrev pub wrong_phase : Phase → Choice → Bool
wrong_phase phase choices.Pass = true
wrong_phase phase (choices.Team numbers) = wrong_for_order phase
wrong_phase phase (choices.Switch position) = wrong_for_switch phase
wrong_phase phase choice = wrong_for_act phase

-- whether a member must go on with a long move, or recharge
abbrev pub is_locked : SideState → Bool
is_locked side = is_some side.vol.lock || side.vol.recharge

-- in a turn, who is locked into a move doesn't go on, or who isn't does
abbrev pub locked : Phase → SideState → Choice → Bool
locked phases.Preview side choice = false
locked (phases.Replace first second) side choice = false
locked phase side choices.Continue = not (is_locked side)
locked phase side choice = is_locked side

-- there is no such slot, or Struggle is chosen while a slot is usable
abbrev pub no_such_move : SideState → Choice → Bool
no_such_move side (choices.Move number) = number == 0 || nat_lt (slot_count_now side) number
no_such_move side choices.Struggle = has_usable side
no_such_move side choice = false

abbrev pub no_pp : SideState → Choice → Bool
no_pp side (choices.Move number) = (slot_now side (number - 1)).pp == 0
no_pp side choice = false

abbrev pub disabled : SideState → Choice → Bool
disabled side (choices.Move number) = is_disabled side.vol.disabled (number - 1)
disabled side choice = false

-- there is no such position, or what should be an order isn't one
abbrev pub no_such_member : SideState → Choice → Bool
no_such_member side (choices.Switch position) = position == 0 || nat_lt side.count position
no_such_member side (choices.Team numbers) = not (is_order side.count numbers)
no_such_member side choice = false

abbrev pub already_out : Choice → Bool
already_out (choices.Switch position) = position == 1
already_out choice = false

abbrev pub fainted : SideState → Choice → Bool
fainted side (choices.Switch position) = (member_at side position).hp == 0
fainted side choice = false

-- a fault where it holds, else what comes after it
abbrev pub unless : Bool → ChoiceFault → Option ChoiceFault → Option ChoiceFault
unless true fault more = Some fault
unless false fault more = more

-- the first fault of a choice, or none. It looks at the phase and the side alone
unfoldable pub fault_of : Phase → ℕ → SideState → Choice → Option ChoiceFault
fault_of phase side_number side choice =
    unless (not (is_asked phase side_number)) faults.NotYourTurn
    (unless (wrong_phase phase choice) faults.WrongPhase
    (unless (locked phase side choice) faults.Locked
    (unless (no_such_move side choice) faults.NoSuchMove
    (unless (no_pp side choice) faults.NoPp
    (unless (disabled side choice) faults.Disabled
    (unless (no_such_member side choice) faults.NoSuchMember
    (unless (already_out choice) faults.AlreadyOut
    (unless (fainted side choice) faults.Fainted None))))))))

abbrev pub legal : Battle → ℕ → Choice → Option ChoiceFault
legal battle side choice = fault_of battle.phase side (side_of battle side) choice

-- a choice that a side may be committed with: a legal one where it is asked, else Pass
abbrev pub IsChoice : Bool → Battle → ℕ → Choice → Type 0
IsChoice true battle side choice = legal battle side choice ≡ None
IsChoice false battle side choice = choice ≡ choices.Pass

abbrev pub IsChoiceOf : Battle → ℕ → Choice → Type 0
IsChoiceOf battle side choice = IsChoice (is_asked battle.phase side) battle side choice

-- the slot, the position or the order that a choice names is there
abbrev pub IsThere : SideState → Choice → Type 0
IsThere side (choices.Move number) = (1 ≤ number) × (number ≤ slot_count_now side)
IsThere side (choices.Switch position) = (1 ≤ position) × (position ≤ side.count)
IsThere side (choices.Team numbers) = is_order side.count numbers ≡ true
IsThere side choice = Unit {0}

-- who is active after the switches of a turn
abbrev pub incoming : SideState → Choice → Member
incoming side (choices.Switch position) = member_at side position
incoming side choice = active_of side
