-- Reading by a cursor.
use Rattle.std.specs.Prelude.{◌≡◌, ◌≤◌, ℕ, false, List, [], ◌∷◌, ◌++◌, length, take, drop, Option, Some, None}
use Rattle.ps_base.specs.Messages.{sent}
use Rattle.ps_event.specs.declared.event.Event.{Event}
use Rattle.ps_dex.specs.declared.item.Tables.{Tables}
use Rattle.ps_view.specs.declared.names.Names.{Names}
use Rattle.ps_view.specs.declared.role.Role.{Role}
use Rattle.ps_view.specs.declared.role.Role.TheVariants.{Outside}
use Rattle.ps_view.specs.Lines.{line_of}
use Rattle.ps_event.specs.Table.{is_logged}
use Rattle.ps_splitlog.specs.declared.stored.Stored.{Stored}
use Rattle.ps_splitlog.specs.declared.entry.LogEntry.{LogEntry}
use Rattle.ps_splitlog.specs.declared.cursor.Cursor.{Cursor}
use Rattle.ps_splitlog.specs.Lines.{stored_of_event, shown_if, is_logged_line}
use Rattle.ps_splitlog.specs.Entries.{changed, logged_lines, message_of}

-- the messages of entries to a connection in this role before, where these came earlier
abbrev pub messages_of : ℕ → Role → List LogEntry → List LogEntry → List (List (List ℕ))
messages_of conn role earlier [] = []
messages_of conn role earlier (entry ∷ entries) = sent (message_of conn role (logged_lines earlier) entry)
    ++ messages_of conn (changed conn entry.roles role) (earlier ++ entry ∷ []) entries

-- the role after entries: what one gives holds from the next on
abbrev pub role_past : ℕ → Role → List LogEntry → Role
role_past conn role [] = role
role_past conn role (entry ∷ entries) = role_past conn (changed conn entry.roles role) entries

-- ---- cursors

-- before the first entry
abbrev pub first_cursor : ℕ → Cursor
first_cursor conn = record { conn = conn; at = 0; role = Outside }

-- at the end of the log
abbrev pub cursor_past : Cursor → List LogEntry → Cursor
cursor_past cursor log = record { conn = cursor.conn; at = length log; role = role_past cursor.conn cursor.role (drop cursor.at log) }

-- the messages past a cursor
abbrev pub read_past : Cursor → List LogEntry → List (List (List ℕ))
read_past cursor log = messages_of cursor.conn cursor.role (take cursor.at log) (drop cursor.at log)

-- ---- laws

-- Who reads a log, and reads again when it has grown, gets what who reads it once when it has grown gets, and stands at the
-- same entry.
pub record ReadsTwice (cursor : Cursor) (log more : List LogEntry) : Type 0 where
  pub messages : read_past cursor (log ++ more) ≡ read_past cursor log ++ read_past (cursor_past cursor log) (log ++ more)
  pub end : cursor_past cursor (log ++ more) ≡ cursor_past (cursor_past cursor log) (log ++ more)

abbrev pub ReadsCompose : Type 0
ReadsCompose = (cursor : Cursor) (log more : List LogEntry) → cursor.at ≤ length log → ReadsTwice cursor log more

-- the messages of who reads a log after each further entry
abbrev pub read_each : Cursor → List LogEntry → List LogEntry → List (List (List ℕ))
read_each cursor log [] = []
read_each cursor log (entry ∷ entries) = read_past cursor (log ++ entry ∷ [])
    ++ read_each (cursor_past cursor (log ++ entry ∷ [])) (log ++ entry ∷ []) entries

abbrev pub ReadsAgree : Type 0
ReadsAgree = (conn : ℕ) (log : List LogEntry) → read_each (first_cursor conn) [] log ≡ read_past (first_cursor conn) log

-- ---- a stored event is shown as the event

-- what a connection in this role is shown of what is stored of an event is the line of the event for the role
abbrev pub EventsAreShown : Type 0
EventsAreShown = (conn : ℕ) (role : Role) (names : Names) (dex : Tables) (event : Event)
    → shown_if conn role (stored_of_event names dex event) ≡ line_of event role names dex

-- what isn't stored isn't logged
abbrev pub IsLoggedAs : Event → Option Stored → Type 0
IsLoggedAs event None = is_logged event ≡ false
IsLoggedAs event (Some stored) = is_logged_line stored ≡ is_logged event

-- and it is logged where the event is
abbrev pub EventsAreLogged : Type 0
EventsAreLogged = (names : Names) (dex : Tables) (event : Event) → IsLoggedAs event (stored_of_event names dex event)
