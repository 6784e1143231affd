-- Where the text of a connection goes.
use Rattle.std.specs.Prelude.{◌≡◌, ℕ, Bool, true, false, List, Option, None, Some, Result, Ok, Err, if◌then◌else◌}
use Rattle.ps_base.specs.declared.badge.Badge.{Badge}
use Rattle.ps_lines.specs.Clients.{client}
use Rattle.ps_lines.specs.Commands.{has_control, command}
use Rattle.ps_lines.specs.declared.client.ClientMsg.{ClientMsg}
use Rattle.ps_lines.specs.declared.client.ClientFault.{ClientFault}
use Rattle.ps_lines.specs.declared.client.ClientFault.TheVariants as client_faults
use Rattle.ps_lines.specs.declared.command.BadWhy.{BadWhy}
use Rattle.ps_lines.specs.declared.command.BadWhy.TheVariants as bad
use Rattle.ps_lines.specs.declared.command.Command.{Command}
use Rattle.ps_lines.specs.declared.command.Command.TheVariants.{Join}
use Rattle.ps_lines.specs.declared.command.CommandFault.{CommandFault}
use Rattle.ps_lines.specs.declared.command.CommandFault.TheVariants as command_faults
use Rattle.ps_lines.specs.declared.command.HallCmd.TheVariants.{Bad}
use Rattle.ps_lines.specs.declared.command.Parsed.{Parsed}
use Rattle.ps_lines.specs.declared.command.Parsed.TheVariants as parsed
use Rattle.ps_lines.specs.declared.order.Order.{Order}
use Rattle.ps_lines.specs.declared.order.Order.TheVariants.{Hall, Room}
use Rattle.ps_session.specs.declared.session.TakeFault.{TakeFault}
use Rattle.ps_session.specs.declared.session.TakeFault.TheVariants.{BadText, Limit, NoMemory}
use Rattle.ps_session.specs.Sessions.{Record, is_full, is_past_rooms, counted, uncounted}

-- ---- the order of a text, before any limit of texts

-- a text that is no command of its connection goes to the hall, and says why
abbrev pub bad_order : BadWhy → Order
bad_order why = Hall (Bad why)

-- a Join goes to the room that it names, everything else to that of the message
abbrev pub room_named : List ℕ → Command → List ℕ
room_named room (Join other) = other
room_named room cmd = room

-- why a text can't go to a room, from a connection with this badge or none
abbrev pub room_refusal : Option Badge → Record → List ℕ → Option BadWhy
room_refusal None session id = Some bad.NotNamed
room_refusal (Some badge) session id = if is_past_rooms id session then Some bad.RoomLimit else None

abbrev pub unless_refused : Option BadWhy → List ℕ → Command → Order
unless_refused (Some why) id cmd = bad_order why
unless_refused None id cmd = Room id cmd

abbrev pub to_room : Option Badge → Record → List ℕ → Command → Order
to_room badge session id cmd = unless_refused (room_refusal badge session id) id cmd

abbrev pub fault_why : CommandFault → BadWhy
fault_why command_faults.UnknownCommand = bad.UnknownCommand
fault_why other = bad.BadArgs

-- a command of the hall goes to the hall, whatever room the message names
abbrev pub by_command : Option Badge → Record → List ℕ → Result Parsed CommandFault → Order
by_command badge session room (Err fault) = bad_order (fault_why fault)
by_command badge session room (Ok (parsed.Hall cmd)) = Hall cmd
by_command badge session room (Ok (parsed.Room cmd)) = to_room badge session (room_named room cmd) cmd

-- bytes that are too many or no UTF-8 are no text
abbrev pub by_client : Option Badge → Record → Result (List ℕ × List ℕ) ClientFault → Option Order
by_client badge session (Err client_faults.NoBar) = Some (bad_order bad.NoBar)
by_client badge session (Err other) = None
by_client badge session (Ok message) = Some (by_command badge session message.0 (command message.1))

-- where a text goes, from a connection with this badge or none that has given texts to the rooms of this record; None
-- where the bytes are no text
unfoldable pub order_of : Option Badge → Record → List ℕ → Option Order
order_of badge session bytes = by_client badge session (client bytes)

-- ---- the limit of texts

-- the room of an order, or None for the hall
abbrev pub place_of : Order → Option (List ℕ)
place_of (Hall cmd) = None
place_of (Room id cmd) = Some id

-- an order to a place that has as many texts as may be given, or not
abbrev pub limited : Bool → Order → Result Order TakeFault
limited true order = Err (Limit (place_of order))
limited false order = Ok order

abbrev pub within_limit : Record → Option Order → Result Order TakeFault
within_limit session None = Err BadText
within_limit session (Some order) = limited (is_full (place_of order) session) order

-- what a text is taken for
abbrev pub taken : Record → List ℕ → Result Order TakeFault
taken session bytes = within_limit session (order_of session.badge session bytes)

-- What a call that found this fault was to find: this fault, but out of memory may come at any text.
abbrev pub IsTakeFault : TakeFault → Result Order TakeFault → Type 0
IsTakeFault BadText take = take ≡ Err BadText
IsTakeFault (Limit room) take = take ≡ Err (Limit room)
IsTakeFault NoMemory take = Unit {0}

-- the record after a text was taken for this
abbrev pub after_take : Result Order TakeFault → Record → Record
after_take (Ok order) session = counted (place_of order) session
after_take (Err fault) session = session

-- ---- a room that isn't there

-- the order in the place of one for a room that isn't there, while the hall takes a text
abbrev pub no_room : Record → Option Order
no_room session = if is_full None session then None else Some (bad_order bad.NoSuchRoom)

-- the text counts to the hall, and no more to its room
abbrev pub after_no_room : Record → Record
after_no_room session = if is_full None session then session else counted None (uncounted session.last session)

-- ---- for the code alone

-- the room and the text that were read, wherever they stand
abbrev pub parts_of : Result ClientMsg ClientFault → Result (List ℕ × List ℕ) ClientFault
parts_of (Ok message) = Ok (message.room.now, message.text.now)
parts_of (Err fault) = Err fault

-- an order for a room leaves a connection with no more rooms than it may have
abbrev pub Fits : Record → Order → Type 0
Fits session (Hall cmd) = Unit {0}
Fits session (Room id cmd) = is_past_rooms id session ≡ false

-- the text that was read has no control character
abbrev pub HasCleanText : Result (List ℕ × List ℕ) ClientFault → Type 0
HasCleanText (Ok message) = has_control message.1 ≡ false
HasCleanText (Err fault) = Unit {0}
