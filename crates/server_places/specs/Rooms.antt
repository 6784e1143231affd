-- The room of a place, as it stands behind a lock.
use Rattle.std.specs.Prelude.{◌≡◌, ◌⊎◌, ◌≤◌, ◌-◌, ℕ, List, [], ◌++◌, map, length, take, drop, Option, Some, None, IfSome}
use Rattle.std.specs.Option.{option_map}
use Rattle.std.specs.declared.boxed.Box.{Box}
use Rattle.std.specs.declared.alloc.Global.{Global}
use Rattle.ps_base.specs.declared.msg.Msg.{Msg}
use Rattle.ps_base.specs.Messages.{msg_lines}
use Rattle.rules_start.specs.declared.start.Start.{Start}
use Rattle.ps_splitlog.specs.Reads.{first_cursor, cursor_past, read_past}
use Rattle.ps_room.specs.declared.entry.Entry.{Entry}
use Rattle.ps_room.specs.declared.outcome.RoomOut.{RoomOut}
use Rattle.ps_room.specs.declared.room.Room.{Room}
use Rattle.ps_room.specs.Records.{opened}
use Rattle.ps_room.specs.Rooms.{run_record}
use Rattle.ps_room.specs.Logs.{Seen, record_in, seen_opened, seen_after, out_of, cursor_at}
use Rattle.ps_room.specs.Stories.{Story, seen_of}
use Rattle.ps_histlock.specs.Views.{IsAtRest}
use Rattle.ps_histlock.specs.declared.view.View.{View}
use Rattle.server_places.specs.declared.command.RoomCmd.{RoomCmd}
use Rattle.server_places.specs.declared.command.RoomCmd.TheVariants.{Begin, Play}
use Rattle.server_places.specs.declared.cursor.RoomCursor.{RoomCursor}
use Rattle.server_places.specs.declared.site.Site.{Site}
use Rattle.server_places.specs.Sites.{Opens, battle_at, plays, Tells, view_told, IsAtBound}

-- The place, its room, if there is one, how many commands there were, and from how many on they were all entries of the room.
pub record Place : Type 0 where
  pub site : Site
  pub room : Option Seen
  pub count : ℕ
  pub plain : ℕ

-- the first so many of these commands tell of a room already, and all behind them are entries of it
pub record IsPlain (site : Site) (cmds : List RoomCmd) (plain : ℕ) : Type 0 where
  pub within : plain ≤ length cmds
  pub first : Story
  pub tells : Tells site (take plain cmds) (Some first)
  pub entries : length (plays (drop plain cmds)) ≡ length (drop plain cmds)

-- where there is a room
abbrev pub IsPlainIf : Option Story → Site → List RoomCmd → ℕ → Type 0
IsPlainIf None site cmds plain = Unit {0}
IsPlainIf (Some story) site cmds plain = IsPlain site cmds plain

-- A place stands for the commands that it has applied: it has the room that they tell of, and their number.
pub record Stands (cmds : List RoomCmd) (place : Place) : Type 0 where
  pub told : Option Story
  pub tells : Tells place.site cmds told
  pub room : place.room ≡ option_map seen_of told
  pub count : place.count ≡ length cmds
  pub plain : IsPlainIf told place.site cmds place.plain

abbrev pub site_in : Place → Site
site_in place = place.site

-- a pass of a room's place between two calls: after its last turn a place stood for what it has seen
abbrev pub IsAtRestInRoom : View Site RoomCmd → Type 0
IsAtRestInRoom pass = IsAtRest site_in Stands pass

-- what comes of a command: of an entry of a room what the room answers; nothing of a Begin, and nothing where there is no room
abbrev pub out_after : Option Story → RoomCmd → Option RoomOut
out_after None cmd = None
out_after (Some story) (Begin start) = None
out_after (Some story) (Play entry) = Some (out_of (run_record (opened story.opening) story.history) entry)

-- what a command is answered after these
pub record Answers (site : Site) (cmds : List RoomCmd) (cmd : RoomCmd) (out : Option RoomOut) : Type 0 where
  pub told : Option Story
  pub tells : Tells site cmds told
  pub is : out ≡ out_after told cmd

abbrev pub read_from : RoomCursor → Option Story → List (List (List ℕ))
read_from cursor None = []
read_from cursor (Some story) = read_past cursor.room (seen_of story).log

-- the cursor past so many commands, which tell this
abbrev pub cursor_from : RoomCursor → Option Story → ℕ → RoomCursor
cursor_from cursor None count = record { room = cursor.room; id = cursor.id; passed = count; until = cursor.until }
cursor_from cursor (Some story) count = record
    { room = cursor_past cursor.room (seen_of story).log; id = Some story.opening.id; passed = count; until = cursor.until }

-- all that is read past a cursor after these commands, and the cursor after it
pub record Reads (site : Site) (cmds : List RoomCmd) (old : RoomCursor) (msgs : List Msg) (new : RoomCursor) : Type 0 where
  pub told : Option Story
  pub tells : Tells site cmds told
  pub messages : map msg_lines msgs ≡ read_from old told
  pub cursor : new ≡ cursor_from old told (length cmds)

-- A piece of that: all that the first so many commands tell past the cursor. What it had passed is among these, and the cursor has the
-- room's id then, if all of the commands tell of a room.
pub record Piece (site : Site) (cmds : List RoomCmd) (old : RoomCursor) (msgs : List Msg) (new : RoomCursor) : Type 0 where
  pub count : ℕ
  pub within : count ≤ length cmds
  pub on : old.passed ≤ length cmds → old.passed ≤ count
  pub reads : Reads site (take count cmds) old msgs new
  pub told : Option Story
  pub tells : Tells site cmds told
  pub id : IfSome told (λ story. new.id ≡ Some story.opening.id)

-- what is pulled past a cursor after these commands, and the cursor after it: a piece, or nothing at its bound
abbrev pub Pulls : Site → List RoomCmd → RoomCursor → List Msg → RoomCursor → Type 0
Pulls site cmds old msgs new = (IsAtBound old.until old.passed × (msgs ≡ []) × (new ≡ old)) ⊎ Piece site cmds old msgs new

-- the cursor with a bound, or without
abbrev pub bounded : Option ℕ → RoomCursor → RoomCursor
bounded until cursor = record cursor { until = until }

-- what is pulled with a bound that is set for this alone
abbrev pub PullsUpTo : Site → List RoomCmd → RoomCursor → List Msg → RoomCursor → Type 0
PullsUpTo site cmds old msgs new = (until : Option ℕ) × (reached : RoomCursor) × Pulls site cmds (bounded until old) msgs reached
    × (new ≡ bounded None reached)

-- the cursor of a connection that was told all that so many commands tell
abbrev pub cursor_of : ℕ → Option Story → ℕ → RoomCursor
cursor_of conn None count = record { room = first_cursor conn; id = None; passed = count; until = None }
cursor_of conn (Some story) count = record
    { room = cursor_at conn story.opening story.history; id = Some story.opening.id; passed = count; until = None }

-- ---- what a connection is told

-- All that a connection is sent over these commands, message by message
abbrev pub Shows : ℕ → Site → List RoomCmd → List (List (List ℕ)) → Type 0
Shows conn site cmds ms = (told : Option Story) × Tells site cmds told × (ms ≡ view_told conn told)

-- the cursor stands behind these commands: it is new, or that of who was told all that they tell
abbrev pub StandsAt : ℕ → Site → List RoomCmd → RoomCursor → Type 0
StandsAt conn site cmds cursor = ((cmds ≡ []) × (cursor ≡ cursor_of conn None 0))
    ⊎ ((told : Option Story) × Tells site cmds told × (cursor ≡ cursor_of conn told (length cmds)))

-- Who has passed the commands `before`, where `later` came since, was sent with what is pulled all that it is sent over those that the
-- cursor has passed then, and the cursor stands behind them.
pub record GoesOn (conn : ℕ) (site : Site) (before later : List RoomCmd) (ms : List (List (List ℕ))) (cursor : RoomCursor) : Type 0 where
  pub on : length before ≤ cursor.passed
  pub within : cursor.passed ≤ length (before ++ later)
  pub shows : Shows conn site (take cursor.passed (before ++ later)) ms
  pub stands : StandsAt conn site (take cursor.passed (before ++ later)) cursor

abbrev pub PullsGoOn : Type 0
PullsGoOn = (conn : ℕ) (site : Site) (before later : List RoomCmd) (old new : RoomCursor) (ms : List (List (List ℕ))) (msgs : List Msg)
    → StandsAt conn site before old → Shows conn site before ms → PullsUpTo site (before ++ later) old msgs new
    → GoesOn conn site before later (ms ++ map msg_lines msgs) new

-- ---- for the code

-- the room in its box
abbrev pub in_box : Option (Box Room Global) → Option Seen
in_box None = None
in_box (Some boxed) = Some boxed.value

-- what a Begin makes of a place, but for the count: nothing of one that has a room
abbrev pub BeginsBy : Option Seen → Place → Start → Place → Type 0
BeginsBy (Some seen) old start new = new ≡ old
BeginsBy None old start new = (Opens old.site start × (new ≡ record old { room = Some (seen_opened (battle_at old.site start)) }))
    ⊎ ((Opens old.site start → ⊥) × (new ≡ old))

abbrev pub Begins : Place → Start → Place → Type 0
Begins old start new = BeginsBy old.room old start new

-- the room after an entry, and what it answers; nothing where there is none
abbrev pub room_after : Option Seen → Entry → Option Seen
room_after room entry = option_map (λ seen. seen_after seen entry) room

abbrev pub room_out : Option Seen → Entry → Option RoomOut
room_out room entry = option_map (λ seen. out_of (record_in seen) entry) room

-- A piece of what a room told past a cursor, and the cursor after it: so many entries are left of the log, and as many commands of `count`.
-- All from `plain` on are entries of the room.
pub record ReadsRoom (room : Seen) (count plain : ℕ) (old : RoomCursor) (msgs : List Msg) (new : RoomCursor) : Type 0 where
  pub left : ℕ
  pub few : left ≤ count - plain
  pub fewer : left ≤ count - old.passed
  pub messages : map msg_lines msgs ≡ read_past old.room (take (length room.log - left) room.log)
  pub cursor : new ≡ record {
    room = cursor_past old.room (take (length room.log - left) room.log);
    id = Some room.id;
    passed = count - left;
    until = old.until;
  }
