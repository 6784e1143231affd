-- Low histories of the hall: what a connection may know of its history. Each entry is turned into one item at the most, over the
-- record before it.
use Rattle.std.specs.Prelude.{ℕ, Bool, false, ◌||◌, ◌==◌, if◌then◌else◌, List, [], ◌∷◌, ◌++◌, Option, Some, None, slice_index_or}
use Rattle.std.specs.List.{list_any}
use Rattle.std.specs.Str.{bytes_eq}
use Rattle.ps_base.specs.Ids.{id_of}
use Rattle.ps_base.specs.declared.badge.Badge.{Badge}
use Rattle.ps_base.specs.declared.hall_why.HallWhy.{HallWhy}
use Rattle.ps_lines.specs.declared.command.HallCmd.{HallCmd}
use Rattle.ps_lines.specs.declared.command.HallCmd.TheVariants.{Open, Quit, Bad, Name, Team, Search, CancelSearch, Rank, Report}
use Rattle.ps_lines.specs.declared.command.HallCmd.TheVariants.{Challenge, CancelChallenge, Reject, Accept, Whisper, Block, Unblock}
use Rattle.rules_start.specs.declared.start.Start.{Start}
use Rattle.ps_users.specs.Refusals.{read_of}
use Rattle.ps_pms.specs.Lookups.{asked_by}
use Rattle.ps_pms.specs.declared.asked.Asked.{Asked}
use Rattle.ps_hall.specs.declared.entry.HallEntry.{HallEntry}
use Rattle.ps_hall.specs.Records.{Record}
use Rattle.ps_hall.specs.Lookups.{badge_of, challenge_from}
use Rattle.ps_hall.specs.Starts.{start_of_accept}
use Rattle.ps_hall.specs.Halls.{verdict, out_of, after}
use Rattle.ps_laws.specs.HallStories.{HallStory, hall_opened}

-- ---- the users of a connection

-- the id that an entry gives its sender: that of an allowed Name
abbrev pub id_taken : Option Badge → List (List ℕ)
id_taken None = []
id_taken (Some badge) = id_of badge.name ∷ []

abbrev pub ids_taken : ℕ → Record → HallEntry → List (List ℕ)
ids_taken conn hall entry = if entry.conn == conn then id_taken (out_of hall entry).badge else []

-- the ids that a connection takes in a history, from a record on
abbrev pub hall_users_from : ℕ → Record → List HallEntry → List (List ℕ)
hall_users_from conn hall [] = []
hall_users_from conn hall (entry ∷ entries) = ids_taken conn hall entry ++ hall_users_from conn (after hall entry) entries

-- the users of a connection in a story
abbrev pub hall_users : ℕ → HallStory → List (List ℕ)
hall_users conn story = hall_users_from conn (hall_opened story.opening) story.history

-- whether an id is one of a connection's users
abbrev pub is_user : List (List ℕ) → List ℕ → Bool
is_user ids id = list_any (bytes_eq id) ids

-- ---- items

-- What is kept of an entry. Who is named by its name is named as everybody sees it, with its capitals; a text that is an id
-- stands for itself.
pub data HallItem : Type 0 where
  -- an own entry, and an entry of another that is known whole
  whole : HallEntry → HallItem
  -- a connection, and the name that it takes
  named : ℕ → List ℕ → HallItem
  -- a name, and the format that is searched
  searched : List ℕ → List ℕ → HallItem
  -- the id of who searches no more
  search_cancelled : List ℕ → HallItem
  -- the names of who challenged and of who accepted, and the format
  started : List ℕ → List ℕ → List ℕ → HallItem
  -- the name of who challenges, the id of who is challenged, and the format
  challenged : List ℕ → List ℕ → List ℕ → HallItem
  -- the id of who had challenged, the id of who was challenged, and the format
  challenge_cancelled : List ℕ → List ℕ → List ℕ → HallItem
  -- the id of who was challenged, the id of who had challenged, and the format
  rejected : List ℕ → List ℕ → List ℕ → HallItem
  -- the number of a battle that ended, and the player who won it, if one did; not who told of it, nor when
  reported : ℕ → Option ℕ → HallItem

abbrev pub is_sender_user : List (List ℕ) → Option Badge → Bool
is_sender_user ids None = false
is_sender_user ids (Some badge) = is_user ids (id_of badge.name)

-- whether an entry is of the connection, or of one that has a name of one of its users
abbrev pub is_own_entry : ℕ → List (List ℕ) → Record → HallEntry → Bool
is_own_entry conn ids hall entry = entry.conn == conn || is_sender_user ids (badge_of hall entry.conn)

-- ---- the table, row by row

-- an allowed Report, of whomever: the battle, and who won it
abbrev pub items_of_report : ℕ → Option ℕ → List HallItem
items_of_report number winner = reported number winner ∷ []

abbrev pub own_allowed : HallEntry → HallCmd → List HallItem
own_allowed entry (Report number winner) = items_of_report number winner
own_allowed entry other = whole entry ∷ []

-- an entry of the connection, or of a connection that has a name of one of its users: the entry whole, but for an allowed Report
abbrev pub items_of_own : HallEntry → Option HallWhy → List HallItem
items_of_own entry (Some why) = whole entry ∷ []
items_of_own entry None = own_allowed entry entry.cmd

-- of others, refused: none
abbrev pub items_of_refused : List HallItem
items_of_refused = []

-- of others, a text that is no command: none
abbrev pub items_of_bad : List HallItem
items_of_bad = []

-- of others, an allowed Team: none
abbrev pub items_of_team : List HallItem
items_of_team = []

-- of others, an allowed Rank: none
abbrev pub items_of_rank : List HallItem
items_of_rank = []

-- of others, Open: the entry whole
abbrev pub items_of_open : HallEntry → List HallItem
items_of_open entry = whole entry ∷ []

-- of others, Quit: the entry whole
abbrev pub items_of_quit : HallEntry → List HallItem
items_of_quit entry = whole entry ∷ []

-- of others, an allowed Name: the connection and the name that is read of its text, without the assertion. Where no name is read
-- it isn't allowed.
abbrev pub items_of_name : ℕ → Option (List ℕ) → List HallItem
items_of_name conn None = []
items_of_name conn (Some name) = named conn name ∷ []

-- of others, an allowed Search: who searches, and the format, without the team
abbrev pub items_of_search : List ℕ → List ℕ → List HallItem
items_of_search name format = searched name format ∷ []

-- of others, an allowed CancelSearch: who searched
abbrev pub items_of_cancel_search : List ℕ → List HallItem
items_of_cancel_search me = search_cancelled me ∷ []

-- the battle that started: who challenged, who accepted, and the format. An allowed Accept always starts one.
abbrev pub items_of_start : Option Start → List HallItem
items_of_start None = []
items_of_start (Some start) = started (slice_index_or start.players 0 []) (slice_index_or start.players 1 []) start.format ∷ []

-- of others, an allowed Accept: the entry whole where the challenge is with one of the connection's users, else the battle
abbrev pub items_of_accept : List (List ℕ) → HallEntry → List ℕ → Option Start → List HallItem
items_of_accept ids entry user start = if is_user ids user then whole entry ∷ [] else items_of_start start

-- of others, an allowed Challenge: who challenges, who is challenged and the format, where this is one of the connection's users
abbrev pub items_of_challenge : List (List ℕ) → List ℕ → List ℕ → List ℕ → List HallItem
items_of_challenge ids name user format = if is_user ids user then challenged name user format ∷ [] else []

-- of others, an allowed CancelChallenge: who had challenged, who was challenged and the format, where this is one of the
-- connection's users. Nobody has more than one open challenge.
abbrev pub items_of_cancel_challenge : List (List ℕ) → List ℕ → Option Asked → List HallItem
items_of_cancel_challenge ids me None = []
items_of_cancel_challenge ids me (Some challenge) = if is_user ids challenge.to then challenge_cancelled me challenge.to
    challenge.format ∷ [] else []

-- of others, an allowed Reject: who was challenged, who had challenged and the format, where this is one of the connection's users
abbrev pub items_of_reject : List (List ℕ) → List ℕ → List ℕ → Option Asked → List HallItem
items_of_reject ids me user None = []
items_of_reject ids me user (Some challenge) = if is_user ids user then rejected me user challenge.format ∷ [] else []

-- of others, an allowed Whisper: the entry whole where it is to one of the connection's users
abbrev pub items_of_whisper : List (List ℕ) → HallEntry → List ℕ → List HallItem
items_of_whisper ids entry user = if is_user ids user then whole entry ∷ [] else []

-- of others, an allowed Block: the entry whole where it is of one of the connection's users
abbrev pub items_of_block : List (List ℕ) → HallEntry → List ℕ → List HallItem
items_of_block ids entry user = if is_user ids user then whole entry ∷ [] else []

-- of others, an allowed Unblock: the entry whole where it is of one of the connection's users
abbrev pub items_of_unblock : List (List ℕ) → HallEntry → List ℕ → List HallItem
items_of_unblock ids entry user = if is_user ids user then whole entry ∷ [] else []

-- ---- which row an entry has

-- the commands that take a name
abbrev pub items_of_named : List (List ℕ) → Record → HallEntry → List ℕ → HallCmd → List HallItem
items_of_named ids hall entry name (Team pack) = items_of_team
items_of_named ids hall entry name (Search format) = items_of_search name format
items_of_named ids hall entry name CancelSearch = items_of_cancel_search (id_of name)
items_of_named ids hall entry name (Challenge user format) = items_of_challenge ids name user format
items_of_named ids hall entry name CancelChallenge = items_of_cancel_challenge ids (id_of name) (asked_by hall.pms (id_of name))
items_of_named ids hall entry name (Reject user) = items_of_reject ids (id_of name) user (challenge_from hall (id_of name) user)
items_of_named ids hall entry name (Accept user) = items_of_accept ids entry user (start_of_accept hall name user)
items_of_named ids hall entry name (Whisper user text) = items_of_whisper ids entry user
items_of_named ids hall entry name (Block user) = items_of_block ids entry user
items_of_named ids hall entry name (Unblock user) = items_of_unblock ids entry user
items_of_named ids hall entry name (Rank user format) = items_of_rank
items_of_named ids hall entry name other = []

-- a command that takes a name is refused where the sender has none
abbrev pub items_by : List (List ℕ) → Record → HallEntry → Option Badge → HallCmd → List HallItem
items_by ids hall entry None cmd = items_of_refused
items_by ids hall entry (Some badge) cmd = items_of_named ids hall entry badge.name cmd

abbrev pub items_of_allowed : List (List ℕ) → Record → HallEntry → HallCmd → List HallItem
items_of_allowed ids hall entry Open = items_of_open entry
items_of_allowed ids hall entry Quit = items_of_quit entry
items_of_allowed ids hall entry (Bad reason) = items_of_bad
items_of_allowed ids hall entry (Name text assertion) = items_of_name entry.conn (read_of text)
items_of_allowed ids hall entry (Report number winner) = items_of_report number winner
items_of_allowed ids hall entry other = items_by ids hall entry (badge_of hall entry.conn) other

abbrev pub items_of_others : List (List ℕ) → Record → HallEntry → Option HallWhy → List HallItem
items_of_others ids hall entry (Some why) = items_of_refused
items_of_others ids hall entry None = items_of_allowed ids hall entry entry.cmd

-- the items of an entry, to a connection with these users
abbrev pub hall_items_of : ℕ → List (List ℕ) → Record → HallEntry → List HallItem
hall_items_of conn ids hall entry = if is_own_entry conn ids hall entry then items_of_own entry (verdict hall entry) else
    items_of_others ids hall entry (verdict hall entry)

-- ---- the low history

-- the items of a history, from a record on
abbrev pub hall_low_from : ℕ → List (List ℕ) → Record → List HallEntry → List HallItem
hall_low_from conn ids hall [] = []
hall_low_from conn ids hall (entry ∷ entries) = hall_items_of conn ids hall entry ++ hall_low_from conn ids (after hall entry) entries

-- the low history of a story. Its users are those of the whole history, also of later entries.
abbrev pub hall_low : ℕ → HallStory → List HallItem
hall_low conn story = hall_low_from conn (hall_users conn story) (hall_opened story.opening) story.history
