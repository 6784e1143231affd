-- What a session did: of each answer of its link, in order, what came of it.
use Rattle.std.specs.Prelude.{◌≡◌, ℕ, ◌==◌, Bool, false, List, [], ◌∷◌, Option, Some, None, Ok, if◌then◌else◌}
use Rattle.std.specs.List.{flat_map}
use Rattle.ps_base.specs.declared.badge.Badge.{Badge}
use Rattle.ps_lines.specs.declared.command.BadWhy.TheVariants.{NoSuchRoom}
use Rattle.ps_lines.specs.declared.command.Command.{Command}
use Rattle.ps_lines.specs.declared.command.HallCmd.{HallCmd}
use Rattle.ps_lines.specs.declared.command.HallCmd.TheVariants as hall_commands
use Rattle.ps_lines.specs.declared.order.Order.{Order}
use Rattle.ps_lines.specs.declared.order.Order.TheVariants.{Hall, Room}
use Rattle.rules_start.specs.declared.start.Start.{Start}
use Rattle.ps_hall.specs.declared.entry.HallEntry.{HallEntry}
use Rattle.ps_room.specs.declared.outcome.Ending.{Ending}
use Rattle.ps_room.specs.Openings.{room_of_battle}
use Rattle.ps_session.specs.Sessions.{Record, is_full, counted, with_badge}
use Rattle.ps_session.specs.Routes.{taken, after_no_room}
use Rattle.server_places.specs.declared.command.RoomCmd.{RoomCmd}
use Rattle.server_places.specs.declared.command.RoomCmd.TheVariants.{Begin, Play}
use Rattle.ps_hub.specs.Calls.{hall_entry, room_entry}
use Rattle.ps_outside.specs.declared.link.Arrival.{Arrival}
use Rattle.ps_outside.specs.declared.link.Arrival.TheVariants as arrivals

-- What a text became: an entry of the hall, with the badge that it gave and the battle that it started, if any; an entry of the
-- room at a place, with the badge that it brought and the end of the battle, if it ended it; or the hall's Bad, since no such
-- room was there, with the place that was asked, if its pass took a turn for it.
pub data Made : Type 0 where
  in_hall : HallCmd → Option Badge → Option Start → Made
  in_room : ℕ → List ℕ → Command → Badge → Option Ending → Made
  nowhere : Option ℕ → List ℕ → Command → Made

-- an answer of the link that didn't end the session: Quiet, or a Text, with the moment that the clock told for it
pub data Act : Type 0 where
  quiet : Act
  heard : List ℕ → ℕ → Made → Act

-- ---- the way of the texts

-- the order that a text became
abbrev pub order_in : Made → Order
order_in (in_hall cmd badge start) = Hall cmd
order_in (in_room number id cmd badge ended) = Room id cmd
order_in (nowhere asked id cmd) = Room id cmd

abbrev pub with_given : Option Badge → Record → Record
with_given None session = session
with_given (Some badge) session = with_badge badge session

-- what is known of the connection after it
abbrev pub after_made : Record → Made → Record
after_made session (in_hall cmd badge start) = with_given badge (counted None session)
after_made session (in_room number id cmd badge ended) = counted (Some id) session
after_made session (nowhere asked id cmd) = after_no_room (counted (Some id) session)

abbrev pub after_act : Record → Act → Record
after_act session quiet = session
after_act session (heard bytes moment made) = after_made session made

abbrev pub after_acts : Record → List Act → Record
after_acts session [] = session
after_acts session (act ∷ rest) = after_acts (after_act session act) rest

-- an entry of a room brings the badge that the connection has, and a Bad needs that the hall takes a further text
abbrev pub IsMadeBy : Record → Made → Type 0
IsMadeBy session (in_hall cmd badge start) = Unit {0}
IsMadeBy session (in_room number id cmd badge ended) = session.badge ≡ Some badge
IsMadeBy session (nowhere asked id cmd) = is_full None (counted (Some id) session) ≡ false

-- the text was taken for that order
abbrev pub IsAct : Record → Act → Type 0
IsAct session quiet = Unit {0}
IsAct session (heard bytes moment made) = (taken session bytes ≡ Ok (order_in made)) × IsMadeBy session made

abbrev pub AreActs : Record → List Act → Type 0
AreActs session [] = Unit {0}
AreActs session (act ∷ rest) = IsAct session act × AreActs (after_act session act) rest

-- what the link gave
abbrev pub arrival_of : Act → Arrival
arrival_of quiet = arrivals.Quiet
arrival_of (heard bytes moment made) = arrivals.Text bytes

-- the moments that the clock told for orders
abbrev pub moment_of : Act → List ℕ
moment_of quiet = []
moment_of (heard bytes moment made) = moment ∷ []

abbrev pub moments_of : List Act → List ℕ
moments_of acts = flat_map moment_of acts

-- ---- entries

-- the Report of a battle's end
abbrev pub report_of : ℕ → ℕ → Option Ending → List HallEntry
report_of conn moment None = []
report_of conn moment (Some ending) = hall_entry conn moment (hall_commands.Report ending.number ending.winner) ∷ []

abbrev pub hall_made : ℕ → ℕ → Made → List HallEntry
hall_made conn moment (in_hall cmd badge start) = hall_entry conn moment cmd ∷ []
hall_made conn moment (in_room number id cmd badge ended) = report_of conn moment ended
hall_made conn moment (nowhere asked id cmd) = hall_entry conn moment (hall_commands.Bad NoSuchRoom) ∷ []

abbrev pub hall_of : ℕ → Act → List HallEntry
hall_of conn quiet = []
hall_of conn (heard bytes moment made) = hall_made conn moment made

-- the entries of the hall that the acts made
abbrev pub hall_entries : ℕ → List Act → List HallEntry
hall_entries conn acts = flat_map (hall_of conn) acts

-- a battle that starts begins at the place of its number
abbrev pub begin_at : ℕ → Option Start → List RoomCmd
begin_at number None = []
begin_at number (Some start) = if room_of_battle start.number == number then Begin start ∷ [] else []

abbrev pub room_made : ℕ → ℕ → ℕ → Made → List RoomCmd
room_made conn number moment (in_hall cmd badge start) = begin_at number start
room_made conn number moment (in_room other id cmd badge ended) = if other == number then Play (room_entry conn badge moment cmd)
    ∷ [] else []
room_made conn number moment (nowhere asked id cmd) = []

abbrev pub room_of : ℕ → ℕ → Act → List RoomCmd
room_of conn number quiet = []
room_of conn number (heard bytes moment made) = room_made conn number moment made

-- the commands that the acts made at the place of a room
abbrev pub room_cmds : ℕ → ℕ → List Act → List RoomCmd
room_cmds conn number acts = flat_map (room_of conn number) acts

-- ---- since when a room is joined

abbrev pub joins_made : ℕ → Made → Bool
joins_made number (in_room other id cmd badge ended) = other == number
joins_made number other = false

-- an entry of the room at a place
abbrev pub is_at : ℕ → Act → Bool
is_at number quiet = false
is_at number (heard bytes moment made) = joins_made number made

-- the acts from the first entry of the room on
abbrev pub since : ℕ → List Act → List Act
since number [] = []
since number (act ∷ rest) = if is_at number act then act ∷ rest else since number rest

-- ---- asking for rooms that aren't there

abbrev pub asked_made : ℕ → Made → List (List ℕ)
asked_made number (nowhere (Some other) id cmd) = if other == number then id ∷ [] else []
asked_made number other = []

abbrev pub asked_by : ℕ → Act → List (List ℕ)
asked_by number quiet = []
asked_by number (heard bytes moment made) = asked_made number made

-- the ids of the texts that named a place and became Bad, each after a turn of its pass
abbrev pub asked : ℕ → List Act → List (List ℕ)
asked number acts = flat_map (asked_by number) acts

abbrev pub begins_made : ℕ → Made → List Start
begins_made number (in_hall cmd badge (Some start)) = if room_of_battle start.number == number then start ∷ [] else []
begins_made number other = []

abbrev pub begins_by : ℕ → Act → List Start
begins_by number quiet = []
begins_by number (heard bytes moment made) = begins_made number made

-- the battles that the acts began at a place
abbrev pub begins : ℕ → List Act → List Start
begins number acts = flat_map (begins_by number) acts

abbrev pub begun_made : Made → List Start
begun_made (in_hall cmd badge (Some start)) = start ∷ []
begun_made other = []

abbrev pub begun_by : Act → List Start
begun_by quiet = []
begun_by (heard bytes moment made) = begun_made made

-- all battles that the acts began
abbrev pub all_begun : List Act → List Start
all_begun acts = flat_map begun_by acts
