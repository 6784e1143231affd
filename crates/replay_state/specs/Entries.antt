-- What the lines of a script bring about, each decided by the lines before it.
use Rattle.std.specs.Prelude.{◌≡◌, ℕ, suc, ◌-◌, Bool, List, [], ◌∷◌, ◌++◌, map, slice_get, slice_set, Option, Some, None, Result, Ok}
use Rattle.std.specs.Prelude.{Err, if◌then◌else◌}
use Rattle.std.specs.FinMap.{get}
use Rattle.std.specs.List.{filter_map}
use Rattle.ps_base.specs.declared.badge.Badge.{Badge}
use Rattle.ps_lines.specs.declared.command.Command.{Command}
use Rattle.ps_lines.specs.declared.command.Command.TheVariants as commands
use Rattle.ps_lines.specs.declared.command.HallCmd.{HallCmd}
use Rattle.ps_lines.specs.declared.command.HallCmd.TheVariants as hall_commands
use Rattle.ps_lines.specs.declared.order.Order.{Order}
use Rattle.ps_lines.specs.declared.order.Order.TheVariants as orders
use Rattle.ps_users.specs.Seats.{is_seat}
use Rattle.ps_session.specs.Sessions.{Record as Session, begun, with_badge, without_badge}
use Rattle.ps_session.specs.Routes.{taken, after_take, no_room, after_no_room}
use Rattle.ps_session.specs.declared.session.TakeFault.{TakeFault}
use Rattle.ps_hall.specs.declared.entry.HallEntry.{HallEntry}
use Rattle.ps_hall.specs.Records.{Record as HallRecord}
use Rattle.ps_hall.specs.Lookups.{badge_of}
use Rattle.ps_hall.specs.Halls as halls
use Rattle.ps_room.specs.declared.entry.Entry.{Entry as RoomEntry}
use Rattle.ps_room.specs.declared.outcome.Ending.{Ending}
use Rattle.ps_room.specs.declared.outcome.RoomOut.{RoomOut}
use Rattle.ps_room.specs.Records.{Record}
use Rattle.ps_room.specs.Rooms.{role}
use Rattle.ps_room.specs.Logs.{out_of, ended_in}
use Rattle.replay_script.specs.declared.item.Item.{Item}
use Rattle.replay_script.specs.declared.item.Item.TheVariants.{Nothing, Moment, Group, Open, Send, Close}
use Rattle.replay_state.specs.declared.place.EntryOut.{EntryOut}
use Rattle.replay_state.specs.declared.place.Placed.{Placed}
use Rattle.replay_state.specs.declared.place.Placed.TheVariants.{Hall, Room}
use Rattle.replay_state.specs.declared.place.Happening.{Happening}
use Rattle.replay_state.specs.declared.place.Happening.TheVariants.{Entry, Ended}
use Rattle.ps_room.specs.Openings.{first_battle}
use Rattle.ps_view.specs.Roles as roles
use Rattle.replay_state.specs.Setup.{Setup}
use Rattle.replay_state.specs.Worlds.{World, world_opening, world_after}
use Rattle.replay_state.specs.Nows.{Standing, Now, now_of, record_at}

-- ---- the end of a session

-- whether a connection is a member of a room
abbrev pub is_member : ℕ → Record → Bool
is_member conn room = roles.is_member (role conn room)

abbrev pub quit_of : ℕ → ℕ → Badge → ℕ → Placed
quit_of moment conn badge number = Room number (record { conn = conn; badge = badge; moment = moment; cmd = commands.Quit })

abbrev pub quit_in : ℕ → ℕ → Badge → ℕ → Standing → List Placed
quit_in moment conn badge number room = if is_member conn room.state then quit_of moment conn badge number ∷ [] else []

-- a Quit in each of these rooms of which the connection is a member, in ascending number
abbrev pub room_quits : ℕ → ℕ → Badge → ℕ → List Standing → List Placed
room_quits moment conn badge number [] = []
room_quits moment conn badge number (room ∷ rooms) = quit_in moment conn badge number room
    ++ room_quits moment conn badge (suc number) rooms

-- who has no name is a member of no room
abbrev pub named_quits : ℕ → Now → ℕ → Option Badge → List Placed
named_quits moment now conn None = []
named_quits moment now conn (Some badge) = room_quits moment conn badge 0 now.chats ++ room_quits moment conn badge first_battle now.battles

abbrev pub hall_entry : ℕ → ℕ → HallCmd → Placed
hall_entry moment conn cmd = Hall (record { conn = conn; moment = moment; cmd = cmd })

-- a Quit in each room of which the connection is a member, and then in the hall
abbrev pub quits : ℕ → Now → ℕ → List Placed
quits moment now conn = named_quits moment now conn (badge_of now.hall conn) ++ hall_entry moment conn hall_commands.Quit ∷ []

-- ---- what a text brings about

-- the end of a session
abbrev pub ended : ℕ → Now → ℕ → List Happening
ended moment now conn = map Entry (quits moment now conn) ++ Ended conn ∷ []

abbrev pub room_entry : ℕ → ℕ → Badge → Command → RoomEntry
room_entry moment conn badge cmd = record { conn = conn; badge = badge; moment = moment; cmd = cmd }

-- an order for a room comes of a connection with a badge alone
abbrev pub entry_in_room : ℕ → ℕ → ℕ → Command → Option Badge → Option Placed
entry_in_room moment conn number cmd None = None
entry_in_room moment conn number cmd (Some badge) = Some (Room number (room_entry moment conn badge cmd))

abbrev pub entry_in_hall : ℕ → ℕ → Option Order → Option Placed
entry_in_hall moment conn (Some (orders.Hall cmd)) = Some (hall_entry moment conn cmd)
entry_in_hall moment conn other = None

-- a text for a room that isn't there is an entry of the hall, which says so, as long as the hall takes texts
abbrev pub numbered_entry : ℕ → ℕ → Option ℕ → Command → Session → Option Placed
numbered_entry moment conn None cmd session = entry_in_hall moment conn (no_room session)
numbered_entry moment conn (Some number) cmd session = entry_in_room moment conn number cmd session.badge

-- The one entry that a text makes which was taken so; None at the limit of its place. The session is that after the take.
abbrev pub order_entry : ℕ → Now → ℕ → Result Order TakeFault → Session → Option Placed
order_entry moment now conn (Ok (orders.Hall cmd)) session = Some (hall_entry moment conn cmd)
order_entry moment now conn (Ok (orders.Room id cmd)) session = numbered_entry moment conn (get now.numbers id) cmd session
order_entry moment now conn (Err fault) session = None

-- the one entry that a text of a connection makes
abbrev pub text_entry : ℕ → Now → ℕ → List ℕ → Session → Option Placed
text_entry moment now conn text session = order_entry moment now conn (taken session text) (after_take (taken session text) session)

-- the end of a battle is reported to the hall by the connection whose entry ended it
abbrev pub report_of : ℕ → ℕ → Option Ending → List Happening
report_of moment conn None = []
report_of moment conn (Some end) = Entry (hall_entry moment conn (hall_commands.Report end.number end.winner)) ∷ []

-- what comes of an entry in a room, if it is there
abbrev pub out_at : Option Record → RoomEntry → Option RoomOut
out_at None entry = None
out_at (Some room) entry = Some (out_of room entry)

abbrev pub ending_at : Option Record → RoomEntry → Option Ending
ending_at room entry = ended_in (out_at room entry)

abbrev pub reports : ℕ → Now → ℕ → Placed → List Happening
reports moment now conn (Hall entry) = []
reports moment now conn (Room number entry) = report_of moment conn (ending_at (record_at number now) entry)

-- an entry, and the report of the battle that it ended; a text that makes none ends the session
abbrev pub entry_happenings : ℕ → Now → ℕ → Option Placed → List Happening
entry_happenings moment now conn None = ended moment now conn
entry_happenings moment now conn (Some placed) = Entry placed ∷ reports moment now conn placed

-- ---- what is known of a connection after its text

-- the badge that a connection has from an entry of the hall on
abbrev pub badged : Option Badge → Session → Session
badged None session = session
badged (Some badge) session = with_badge badge session

abbrev pub session_past_hall : HallRecord → HallEntry → Session → Session
session_past_hall hall entry session = badged (halls.out_of hall entry).badge session

abbrev pub session_past_room : Option ℕ → Session → Session
session_past_room None session = after_no_room session
session_past_room (Some number) session = session

-- the session after a text that was taken so, from the one after the take
abbrev pub order_session : ℕ → Now → ℕ → Result Order TakeFault → Session → Session
order_session moment now conn (Ok (orders.Hall cmd)) session = session_past_hall now.hall
    (record { conn = conn; moment = moment; cmd = cmd }) session
order_session moment now conn (Ok (orders.Room id cmd)) session = session_past_room (get now.numbers id) session
order_session moment now conn (Err fault) session = session

abbrev pub text_session : ℕ → Now → ℕ → List ℕ → Session → Session
text_session moment now conn text session = order_session moment now conn (taken session text) (after_take (taken session text) session)

-- ---- what a line brings about

abbrev pub session_of : ℕ → List Session → Option Session
session_of conn ss = slice_get ss (conn - 1)

abbrev pub is_open : ℕ → Now → Bool
is_open conn now = is_seat now.hall.users.seats conn

-- What the lines before a line leave: the moment, the hall and the rooms, and what is known of each connection, in order from 1.
pub record State : Type 0 where
  pub moment : ℕ
  pub now : Now
  pub sessions : List Session

-- what a line brings about, and the sessions after it
pub record Line : Type 0 where
  pub happenings : List Happening
  pub sessions : List Session

abbrev pub idle : List Session → Line
idle ss = record { happenings = []; sessions = ss }

abbrev pub sent_by : State → ℕ → List ℕ → Option Session → Line
sent_by state conn text None = idle state.sessions
sent_by state conn text (Some session) = record {
  happenings = entry_happenings state.moment state.now conn (text_entry state.moment state.now conn text session);
  sessions = slice_set state.sessions (conn - 1) (text_session state.moment state.now conn text session);
}

-- a text of a connection whose session is over does nothing
abbrev pub sent : State → ℕ → List ℕ → Line
sent state conn text = if is_open conn state.now then sent_by state conn text (session_of conn state.sessions) else idle state.sessions

-- and neither does its end
abbrev pub closed : State → ℕ → Line
closed state conn = if is_open conn state.now then record
    { happenings = map Entry (quits state.moment state.now conn); sessions = state.sessions } else
    idle state.sessions

abbrev pub opening : ℕ → ℕ → Happening
opening moment conn = Entry (hall_entry moment conn hall_commands.Open)

abbrev pub line_at : State → Item → Line
line_at state Nothing = idle state.sessions
line_at state (Moment moment) = idle state.sessions
line_at state (Group symbol id) = idle state.sessions
line_at state (Open conn) = record { happenings = opening state.moment conn ∷ []; sessions = state.sessions ++ begun conn ∷ [] }
line_at state (Send conn text) = sent state conn text
line_at state (Close conn) = closed state conn

-- ---- the end of a battle

-- that which an entry brings about
abbrev pub end_by : Now → Option Placed → Option Ending
end_by now None = None
end_by now (Some (Hall entry)) = None
end_by now (Some (Room number entry)) = ending_at (record_at number now) entry

abbrev pub end_sent : State → ℕ → List ℕ → Option Session → Option Ending
end_sent state conn text None = None
end_sent state conn text (Some session) = end_by state.now (text_entry state.moment state.now conn text session)

-- that which a line brings about, whose entry's end is reported right behind it
abbrev pub end_at : State → Item → Option Ending
end_at state (Send conn text) = if is_open conn state.now then end_sent state conn text (session_of conn state.sessions) else None
end_at state Nothing = None
end_at state (Moment moment) = None
end_at state (Group symbol id) = None
end_at state (Open conn) = None
end_at state (Close conn) = None

-- ---- scripts

-- the moment after a line
abbrev pub moment_after : ℕ → Item → ℕ
moment_after moment (Moment new) = new
moment_after moment other = moment

-- what the lines before a line leave, with the whole history of each place
pub record Run : Type 0 where
  pub moment : ℕ
  pub world : World
  pub sessions : List Session

abbrev pub state_of : Run → State
state_of run = record { moment = run.moment; now = now_of run.world; sessions = run.sessions }

-- before the first line
abbrev pub run_opening : Setup → Run
run_opening setup = record { moment = 0; world = world_opening setup; sessions = [] }

abbrev pub entry_in : Happening → Option Placed
entry_in (Entry placed) = Some placed
entry_in (Ended conn) = None

abbrev pub entries_in : List Happening → List Placed
entries_in xs = filter_map entry_in xs

abbrev pub worlds_after : World → List Placed → World
worlds_after world [] = world
worlds_after world (placed ∷ placeds) = worlds_after (world_after world placed) placeds

-- what a line brings about behind others
abbrev pub line_in : Run → Item → Line
line_in run item = line_at (state_of run) item

abbrev pub run_after : Run → Item → Run
run_after run item = record {
  moment = moment_after run.moment item;
  world = worlds_after run.world (entries_in (line_in run item).happenings);
  sessions = (line_in run item).sessions;
}

abbrev pub run_past : Run → List Item → Run
run_past run [] = run
run_past run (item ∷ items) = run_past (run_after run item) items

-- what these lines bring about behind others
abbrev pub happenings_from : Run → List Item → List Happening
happenings_from run [] = []
happenings_from run (item ∷ items) = (line_in run item).happenings ++ happenings_from (run_after run item) items

-- all that a script brings about, in order
abbrev pub happenings : Setup → List Item → List Happening
happenings setup items = happenings_from (run_opening setup) items

-- all entries of a script, each with its place, in order
abbrev pub entries : Setup → List Item → List Placed
entries setup items = entries_in (happenings setup items)

-- the world of a script: the opening and the history of each place
abbrev pub world_of : Setup → List Item → World
world_of setup items = (run_past (run_opening setup) items).world

-- ---- for the code: an order for a room was counted to it last

abbrev pub IsCounted : Order → Session → Type 0
IsCounted (orders.Hall cmd) session = Unit {0}
IsCounted (orders.Room id cmd) session = session.last ≡ Some id

-- ---- for the code: an entry of a room has its sender's badge, which the session lends to it

-- the session meanwhile, by the order that it makes its entry of
abbrev pub lent_to_room : Option ℕ → Session → Session
lent_to_room None session = after_no_room session
lent_to_room (Some number) session = without_badge session

abbrev pub session_lent : Now → Order → Session → Session
session_lent now (orders.Hall cmd) session = session
session_lent now (orders.Room id cmd) session = lent_to_room (get now.numbers id) session

-- what comes of an entry: the end of the battle that it ended, and the badge that one of the hall gives
abbrev pub entry_out : Now → Placed → EntryOut
entry_out now (Hall entry) = record { ended = None; badge = (halls.out_of now.hall entry).badge }
entry_out now (Room number entry) = record { ended = ending_at (record_at number now) entry; badge = None }

-- the badge that the session gets from it
abbrev pub badge_past : Placed → Option Badge → Option Badge
badge_past (Hall entry) badge = badge
badge_past (Room number entry) badge = Some entry.badge

-- and the session then
abbrev pub session_past : Now → Option Placed → Session → Session
session_past now None session = session
session_past now (Some placed) session = badged (badge_past placed (entry_out now placed).badge) session
