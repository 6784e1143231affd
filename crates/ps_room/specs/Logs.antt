-- What a room keeps for those who look later, and what they are given.
use Rattle.std.specs.Prelude.{◌≡◌, ℕ, Bool, ◌+◌, List, [], ◌∷◌, ◌++◌, length, map, Option, Some, None}
use Rattle.std.specs.Option.{option_map}
use Rattle.std.specs.List.{filter}
use Rattle.ps_base.specs.declared.why.Why.{Why}
use Rattle.ps_base.specs.declared.badge.Badge.{Badge}
use Rattle.ps_lines.specs.declared.command.Command.{Command}
use Rattle.ps_lines.specs.declared.command.Command.TheVariants.{Join, Leave, Quit, Ban, Promote}
use Rattle.ps_dex.specs.declared.item.Tables.{Tables}
use Rattle.rules_config.specs.declared.settings.Settings.{Settings}
use Rattle.rules_start.specs.declared.start.Start.{Start}
use Rattle.ps_event.specs.declared.event.Event.{Event}
use Rattle.ps_chat.specs.Lines.{Line}
use Rattle.ps_chat.specs.Records.{Opening as ChatOpening, Record as ChatRecord, nobody}
use Rattle.ps_chat.specs.Lookups.{has_id}
use Rattle.ps_chat.specs.declared.present.Present.{Present}
use Rattle.ps_view.specs.declared.role.Role.{Role}
use Rattle.battle_rounds.specs.declared.bout.Bout.{Bout}
use Rattle.battle_rounds.specs.Casts.{Cast}
use Rattle.battle_rounds.specs.declared.decision.Decision.{Decision}
use Rattle.battle_rounds.specs.declared.finish.Finish.{Finish}
use Rattle.battle_rounds.specs.declared.finish.Finish.TheVariants.{Won, Tied}
use Rattle.battle_rounds.specs.Fights.{Fight, outcome_of}
use Rattle.battle_rounds.specs.Rounds.{ended}
use Rattle.ps_splitlog.specs.declared.backlog.BacklogSize.{BacklogSize}
use Rattle.ps_splitlog.specs.declared.backlog.BacklogSize.TheVariants.{All, Last}
use Rattle.ps_splitlog.specs.declared.stored.Stored.{Stored}
use Rattle.ps_splitlog.specs.declared.entry.Joined.{Joined as LogJoined}
use Rattle.ps_splitlog.specs.declared.entry.LogEntry.{LogEntry}
use Rattle.ps_splitlog.specs.declared.cursor.Cursor.{Cursor}
use Rattle.ps_splitlog.specs.Lines.{stored_of, stored_of_line}
use Rattle.ps_splitlog.specs.Entries.{keep_of_size, logged_lines, message_of}
use Rattle.ps_splitlog.specs.Reads.{first_cursor, cursor_past, read_past}
use Rattle.ps_room.specs.declared.entry.Entry.{Entry}
use Rattle.ps_room.specs.declared.outcome.RoomOut.{RoomOut}
use Rattle.ps_room.specs.declared.outcome.Ending.{Ending}
use Rattle.ps_room.specs.declared.outcome.Verdict.TheVariants.{Applied, Refused}
use Rattle.ps_room.specs.Openings.{Opening, cast_with, bout_with, fight_with}
use Rattle.ps_room.specs.Tolds.{Joined, Told}
use Rattle.ps_room.specs.Records.{Record, opened, chat_opening, presents_of, cast_in}
use Rattle.ps_room.specs.Rooms.{verdict, sender_of, outcome_by, battle_after, with_bout, CanGoOn, IsIdle, joined_if, told, after}
use Rattle.ps_room.specs.Rooms.{role, role_in, run_record, message, view}

-- ---- whose role may change

abbrev pub conn_of : Present → ℕ
conn_of present = present.conn

-- the connections of the members with an id
abbrev pub conns_with : List ℕ → List Present → List ℕ
conns_with id ps = map conn_of (filter (has_id id) ps)

-- the connections whose role an applied command may change
abbrev pub touched_by : Command → List Present → ℕ → List ℕ
touched_by (Join room) ps conn = conn ∷ []
touched_by Leave ps conn = conn ∷ []
touched_by Quit ps conn = conn ∷ []
touched_by (Ban id reason) ps conn = conns_with id ps
touched_by (Promote id symbol) ps conn = conns_with id ps
touched_by other ps conn = []

abbrev pub touched_if : Option Why → Record → Entry → List ℕ
touched_if (Some why) room entry = []
touched_if None room entry = touched_by entry.cmd (presents_of room) entry.conn

-- the connections whose role an entry may change
abbrev pub touched : Record → Entry → List ℕ
touched room entry = touched_if (verdict room entry) room entry

-- a connection with its role
abbrev pub change_in : Option Cast → ChatOpening → ChatRecord → ℕ → ℕ × Role
change_in cast opening chat conn = (conn, role_in conn cast opening chat)

-- with the role that it has in a record
abbrev pub change_to : Record → ℕ → ℕ × Role
change_to room conn = change_in (cast_in room.battle) room.opening room.chat conn

abbrev pub changed_conn : ℕ × Role → ℕ
changed_conn change = change.0

-- ---- what the log has of an entry

-- its events, each line in its two texts where it is split, and its lines; a room without a battle has no events
abbrev pub stored_in : Option Cast → List Event → List Line → List Stored
stored_in None events ls = map stored_of_line ls
stored_in (Some cast) events ls = stored_of cast.names cast.dex events ls

-- how much of what was logged who joins is sent: of a chat the last hundred lines, of a battle all
abbrev pub backlog_size : Option Cast → BacklogSize
backlog_size None = Last 100
backlog_size (Some cast) = All

abbrev pub join_of : Option Cast → Joined → LogJoined
join_of cast join = record { role = join.role; head = join.head; keep = keep_of_size (backlog_size cast); tail = join.request }

abbrev pub log_entry_with : Option Cast → ℕ → Told → List (ℕ × Role) → LogEntry
log_entry_with cast conn telling roles = record
    { conn = conn; lines = stored_in cast telling.events telling.lines; join = option_map (join_of cast) telling.joined; roles = roles }

abbrev pub join_if : Bool → Record → Entry → Option LogJoined
join_if join room entry = option_map (join_of (cast_in room.battle)) (joined_if join room entry)

-- all that an entry gives, as the log will have it, but for the roles
abbrev pub given : Record → Entry → LogEntry
given room entry = log_entry_with (cast_in room.battle) entry.conn (told room entry) []

-- what the log has of it: with the roles that hold from the next entry on
abbrev pub kept_of : Record → Entry → LogEntry
kept_of room entry = log_entry_with (cast_in room.battle) entry.conn (told room entry)
    (map (change_to (after room entry)) (touched room entry))

-- ---- what a room keeps

-- A room: its number and id, what its chat was opened with, its chat and its battle, and its log. Events aren't kept: each of
-- their lines stands in the log.
pub record Seen : Type 0 where
  pub no : ℕ
  pub id : List ℕ
  pub opening : ChatOpening
  pub chat : ChatRecord
  pub battle : Option Fight
  pub log : List LogEntry

-- Its record, but for what was logged, which the log has. Neither verdict nor role looks at that; `joined` counts it, and `join_of`
-- leaves the count out.
abbrev pub record_in : Seen → Record
record_in seen = record { opening = seen.opening; chat = seen.chat; logged = []; battle = seen.battle }

-- a room with this log in the place of its own, and apart from any: who keeps a room's log beside it chooses how long
abbrev pub with_log : List LogEntry → Seen → Seen
with_log log seen = record { no = seen.no; id = seen.id; opening = seen.opening; chat = seen.chat; battle = seen.battle; log = log }

abbrev pub unlogged : Seen → Seen
unlogged seen = with_log [] seen

-- the opening of a battle stands in the log before all entries, as one of a connection that nobody is
abbrev pub opened_log : Settings → Tables → Option Start → List LogEntry
opened_log config dex None = []
opened_log config dex (Some start) = log_entry_with (Some (cast_with config dex start)) 0
    (record { events = (bout_with config start).told; lines = []; joined = None }) [] ∷ []

abbrev pub seen_opened : Opening → Seen
seen_opened opening = record {
  no = opening.no;
  id = opening.id;
  opening = chat_opening opening;
  chat = nobody;
  battle = option_map (fight_with opening.config opening.dex) opening.battle;
  log = opened_log opening.config opening.dex opening.battle;
}

-- a room after an entry
abbrev pub seen_after : Seen → Entry → Seen
seen_after seen entry = record {
  no = seen.no;
  id = seen.id;
  opening = (after (record_in seen) entry).opening;
  chat = (after (record_in seen) entry).chat;
  battle = (after (record_in seen) entry).battle;
  log = seen.log ++ kept_of (record_in seen) entry ∷ [];
}

-- apart from its log, which stays
abbrev pub state_after : Seen → Entry → Seen
state_after seen entry = with_log seen.log (seen_after seen entry)

-- a room after a history
abbrev pub run_seen : Seen → List Entry → Seen
run_seen seen [] = seen
run_seen seen (entry ∷ entries) = run_seen (seen_after seen entry) entries

-- ---- for the code: the rounds of the battle, which are worked out before the entry is applied

pub record Goes (seen : Seen) (entry : Entry) (new_bout : Option Bout) : Type 0 where
  pub after : verdict (record_in seen) entry ≡ None
      → with_bout seen.battle new_bout ≡ battle_after seen.battle (sender_of (record_in seen) entry) entry.cmd
  pub bout : verdict (record_in seen) entry ≡ None → CanGoOn seen.battle new_bout

-- none are made by a refused entry, and none in a room without a battle
pub record MakesNone (seen : Seen) (entry : Entry) (new_bout : Option Bout) : Type 0 where
  pub refused : (why : Why) → verdict (record_in seen) entry ≡ Some why → new_bout ≡ None
  pub idle : IsIdle seen.battle new_bout

-- ---- the answer of the call

abbrev pub entry_of : ℕ → Badge → ℕ → Command → Entry
entry_of conn badge moment cmd = record { conn = conn; badge = badge; moment = moment; cmd = cmd }

-- the end of the battle with this number, where it ended
abbrev pub ending_of : ℕ → Option Finish → Option Ending
ending_of number None = None
ending_of number (Some (Won side)) = Some (record { number = number; winner = Some side })
ending_of number (Some Tied) = Some (record { number = number; winner = None })

-- how the battle ended at an entry that is applied
abbrev pub ending_by : Option Fight → Option Present → Command → Option Ending
ending_by None me cmd = None
ending_by (Some fight) me cmd = ending_of fight.number (ended fight.bout.battle.phase (outcome_by fight me cmd).bout.battle.phase)

-- by what its command comes to at the battle
abbrev pub ending_from : Option Fight → Decision → Option Ending
ending_from None decision = None
ending_from (Some fight) decision = ending_of fight.number
    (ended fight.bout.battle.phase (outcome_of fight.cast.dex fight.bout decision).bout.battle.phase)

abbrev pub out_by : Option Why → Record → Entry → RoomOut
out_by (Some why) room entry = record { verdict = Refused why; ended = None }
out_by None room entry = record { verdict = Applied; ended = ending_by room.battle (sender_of room entry) entry.cmd }

-- whether the entry was applied, and the end of the battle where it ended it
unfoldable pub out_of : Record → Entry → RoomOut
out_of room entry = out_by (verdict room entry) room entry

-- ---- what is given to who looks

-- the cursor of a connection that has passed a history
abbrev pub cursor_at : ℕ → Opening → List Entry → Cursor
cursor_at conn opening history = record {
  conn = conn;
  at = length (opened_log opening.config opening.dex opening.battle) + length history;
  role = role conn (run_record (opened opening) history);
}

-- What who has passed the history `before` is given of a room whose history goes on with `later`: the part of its view
-- past that place, and the cursor stands at the end.
pub record IsPastView (conn : ℕ) (opening : Opening) (before later : List Entry) (seen : Seen) (cursor : Cursor) : Type 0 where
  pub messages : read_past cursor seen.log ≡ view conn (run_record (opened opening) before) later
  pub end : cursor_past cursor seen.log ≡ cursor_at conn opening (before ++ later)

abbrev pub PullsView : Type 0
PullsView = (conn : ℕ) (opening : Opening) (before later : List Entry)
    → IsPastView conn opening before later (run_seen (seen_opened opening) (before ++ later)) (cursor_at conn opening before)

-- a new cursor is given all of it
abbrev pub PullsAll : Type 0
PullsAll = (conn : ℕ) (opening : Opening) (history : List Entry)
    → IsPastView conn opening [] history (run_seen (seen_opened opening) history) (first_cursor conn)

-- ---- what a room's calls say is said of its history

-- A room after a history has the record of the history, but for what was logged; and its verdict, its answer, its roles and the
-- message of the next entry are those of that record.
pub record IsRoomOf (opening : Opening) (history : List Entry) (seen : Seen) : Type 0 where
  pub record_is : record_in seen ≡ record (run_record (opened opening) history) { logged = [] }
  pub verdict_is : (entry : Entry) → verdict (record_in seen) entry ≡ verdict (run_record (opened opening) history) entry
  pub out_is : (entry : Entry) → out_of (record_in seen) entry ≡ out_of (run_record (opened opening) history) entry
  pub role_is : (conn : ℕ) → role conn (record_in seen) ≡ role conn (run_record (opened opening) history)
  pub message_is : (conn : ℕ) (entry : Entry)
      → message_of conn (role conn (record_in seen)) (logged_lines seen.log) (given (record_in seen) entry)
      ≡ message conn (run_record (opened opening) history) entry

abbrev pub AreRoomsOfHistories : Type 0
AreRoomsOfHistories = (opening : Opening) (history : List Entry) → IsRoomOf opening history (run_seen (seen_opened opening) history)

-- the end of a battle that an entry gave, where there was a room
abbrev pub ended_in : Option RoomOut → Option Ending
ended_in None = None
ended_in (Some out) = out.ended
