-- The hall, as it stands behind a lock.
use Rattle.std.specs.Prelude.{◌≡◌, ◌≤◌, ◌⊎◌, ◌-◌, ℕ, List, [], ◌++◌, map, length, take, Option, Some, None, IfSome}
use Rattle.std.specs.FinMap.{empty}
use Rattle.ps_base.specs.declared.msg.Msg.{Msg}
use Rattle.rules_start.specs.Fits.{IsFit}
use Rattle.ps_hall.specs.declared.entry.HallEntry.{HallEntry}
use Rattle.ps_hall.specs.declared.outcome.HallOut.{HallOut}
use Rattle.ps_hall.specs.Records.{Record, opened}
use Rattle.ps_base.specs.Limits.{most_battles}
use Rattle.ps_base.specs.Messages.{msg_lines}
use Rattle.ps_hall.specs.Halls.{Seen, seen_opened, run_seen, run_record, out_of, view, pulled_past, before_last, cursor_past}
use Rattle.ps_histlock.specs.Views.{IsAtRest}
use Rattle.ps_histlock.specs.declared.view.View.{View}
use Rattle.server_places.specs.declared.cursor.HallCursor.{HallCursor}
use Rattle.server_places.specs.declared.site.Root.{Root}
use Rattle.server_places.specs.Sites.{no_settings, no_tables, IsAtBound}

-- the hall before the first entry: no rank goes before those of registered names
abbrev pub hall_opened : Root → Record
hall_opened root = opened root.config root.dex empty

-- the hall after its entries
abbrev pub hall_after : Root → List HallEntry → Record
hall_after root es = run_record (hall_opened root) es

-- with what it keeps for those who look later
abbrev pub hall_seen : Root → List HallEntry → Seen
hall_seen root es = run_seen (seen_opened (hall_opened root)) es

-- a root without anything
abbrev pub no_root : Root
no_root = record { config = no_settings; dex = no_tables }

pub record HallHome : Type 0 where
  pub root : Root
  pub hall : Seen
  pub count : ℕ

-- it stands for the entries that it has applied
pub record HallStands (es : List HallEntry) (home : HallHome) : Type 0 where
  pub hall : home.hall ≡ hall_seen home.root es
  pub count : home.count ≡ length es

abbrev pub root_in : HallHome → Root
root_in home = home.root

-- a pass of the hall between two calls: after its last turn a hall stood for what it has seen
abbrev pub IsAtRestInHall : View Root HallEntry → Type 0
IsAtRestInHall pass = IsAtRest root_in HallStands pass

-- what an entry is answered after these; a battle that it starts can start, and has a number of a battle
pub record HallAnswers (root : Root) (es : List HallEntry) (entry : HallEntry) (out : HallOut) : Type 0 where
  pub is : out ≡ out_of (hall_after root es) entry
  pub fit : IfSome out.start (λ start. IsFit start root.config root.dex)
  pub above : IfSome out.start (λ start. 1 ≤ start.number)
  pub below : IfSome out.start (λ start. start.number ≤ most_battles)

-- all that is read past a cursor after these entries, and the cursor after it
pub record HallReads (root : Root) (es : List HallEntry) (old : HallCursor) (msgs : List Msg) (new : HallCursor) : Type 0 where
  pub messages : map msg_lines msgs ≡ pulled_past old.hall (hall_seen root es)
  pub cursor : new ≡ record { hall = cursor_past old.hall (hall_seen root es); passed = length es; until = old.until }

-- A piece of that: all that the first so many entries tell past the cursor. What it had passed is among these.
pub record HallPiece (root : Root) (es : List HallEntry) (old : HallCursor) (msgs : List Msg) (new : HallCursor) : Type 0 where
  pub count : ℕ
  pub within : count ≤ length es
  pub on : old.passed ≤ length es → old.passed ≤ count
  pub reads : HallReads root (take count es) old msgs new

-- what is pulled past a cursor after these entries, and the cursor after it: a piece, or nothing at its bound
abbrev pub HallPulls : Root → List HallEntry → HallCursor → List Msg → HallCursor → Type 0
HallPulls root es old msgs new = (IsAtBound old.until old.passed × (msgs ≡ []) × (new ≡ old)) ⊎ HallPiece root es old msgs new

-- the cursor with a bound, or without
abbrev pub hall_bounded : Option ℕ → HallCursor → HallCursor
hall_bounded until cursor = record cursor { until = until }

-- what is pulled with a bound that is set for this alone
abbrev pub HallPullsUpTo : Root → List HallEntry → HallCursor → List Msg → HallCursor → Type 0
HallPullsUpTo root es old msgs new = (until : Option ℕ) × (reached : HallCursor) × HallPulls root es (hall_bounded until old) msgs reached
    × (new ≡ hall_bounded None reached)

-- the cursor of a connection behind so many entries
abbrev pub hall_cursor : ℕ → ℕ → HallCursor
hall_cursor conn count = record { hall = record { conn = conn; at = count }; passed = count; until = None }

-- by whose number an entry is signed: each is one of a connection's own session
abbrev pub hall_signer : HallEntry → Option ℕ
hall_signer entry = Some entry.conn

-- ---- what a connection is told

-- all that a connection is sent over these entries, message by message
abbrev pub HallShows : ℕ → Root → List HallEntry → List (List (List ℕ)) → Type 0
HallShows conn root es ms = ms ≡ view conn (hall_opened root) es

-- the cursor stands behind these entries
abbrev pub HallStandsAt : ℕ → Root → List HallEntry → HallCursor → Type 0
HallStandsAt conn root es cursor = cursor ≡ hall_cursor conn (length es)

-- Who has passed the entries `before`, where `later` came since, was sent with what is pulled all that it is sent over those that the
-- cursor has passed then, and the cursor stands behind them.
pub record HallGoesOn (conn : ℕ) (root : Root) (before later : List HallEntry) (ms : List (List (List ℕ)))
    (cursor : HallCursor) : Type 0 where
  pub on : length before ≤ cursor.passed
  pub within : cursor.passed ≤ length (before ++ later)
  pub shows : HallShows conn root (take cursor.passed (before ++ later)) ms
  pub stands : HallStandsAt conn root (take cursor.passed (before ++ later)) cursor

abbrev pub HallPullsGoOn : Type 0
HallPullsGoOn = (conn : ℕ) (root : Root) (before later : List HallEntry) (old new : HallCursor) (ms : List (List (List ℕ)))
    (msgs : List Msg)
    → HallStandsAt conn root before old → HallShows conn root before ms → HallPullsUpTo root (before ++ later) old msgs new
    → HallGoesOn conn root before later (ms ++ map msg_lines msgs) new

-- ---- for the code

-- a piece of what the hall told past a cursor, and the cursor after it: so many of `count` entries are left
pub record ReadsHall (hall : Seen) (count : ℕ) (old : HallCursor) (msgs : List Msg) (new : HallCursor) : Type 0 where
  pub left : ℕ
  pub within : left ≤ count
  pub few : left ≤ count - old.passed
  pub messages : map msg_lines msgs ≡ pulled_past old.hall (before_last left hall)
  pub cursor : new ≡ record { hall = cursor_past old.hall (before_last left hall); passed = count - left; until = old.until }
