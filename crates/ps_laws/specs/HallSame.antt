-- When two stories of the hall are the same to a connection.
use Rattle.std.specs.Prelude.{◌≡◌, ℕ, true, List, [], ◌∷◌, ◌++◌, Some, None, is_some}
use Rattle.ps_base.specs.Ids.{id_of}
use Rattle.ps_base.specs.declared.badge.Badge.{Badge}
use Rattle.ps_lines.specs.declared.command.HallCmd.TheVariants.{Accept, Search}
use Rattle.ps_hall.specs.declared.entry.HallEntry.{HallEntry}
use Rattle.ps_hall.specs.Records.{Record}
use Rattle.ps_hall.specs.Lookups.{badge_of, opponent}
use Rattle.ps_hall.specs.Halls.{verdict, after, out_of, run_record}
use Rattle.ps_laws.specs.HallStories.{HallOpening, HallStory, hall_story, hall_opened, hall_view_of}
use Rattle.ps_laws.specs.HallLow.{hall_users, hall_items_of, hall_low_from, hall_low}

-- Their openings are equal, and their low histories.
pub record AreHallsSame (conn : ℕ) (one two : HallStory) : Type 0 where
  pub openings : one.opening ≡ two.opening
  pub histories : hall_low conn one ≡ hall_low conn two

-- what two stories that are the same to a connection give it
abbrev pub HallViewsAreEqual : ℕ → Type 0
HallViewsAreEqual conn = (one two : HallStory) → AreHallsSame conn one two → hall_view_of conn one ≡ hall_view_of conn two

-- An entry is unshown in a record to a connection with these users where it has no item, and what follows has the same items
-- with it and without it. The second says something of its own: a team that others don't see decides which of their later
-- commands are allowed.
pub record IsUnshown (conn : ℕ) (ids : List (List ℕ)) (hall : Record) (entry : HallEntry) (later : List HallEntry) : Type 0 where
  pub none : hall_items_of conn ids hall entry ≡ []
  pub later_same : hall_low_from conn ids (after hall entry) later ≡ hall_low_from conn ids hall later

-- Such an entry may as well be missing: the story with it and the story without it are the same to the connection.
abbrev pub HallUnshownMayBeMissing : ℕ → Type 0
HallUnshownMayBeMissing conn = (opening : HallOpening) (before : List HallEntry) (entry : HallEntry) (later : List HallEntry)
    → IsUnshown conn (hall_users conn (hall_story opening (before ++ later))) (run_record (hall_opened opening) before) entry later
    → AreHallsSame conn (hall_story opening (before ++ entry ∷ later)) (hall_story opening (before ++ later))

-- An allowed Accept starts a battle, whatever the history is before it: so each allowed Accept of others has an item.
abbrev pub HallAcceptsStart : Type 0
HallAcceptsStart = (opening : HallOpening) (before : List HallEntry) (entry : HallEntry) (user : List ℕ) → entry.cmd ≡ Accept user
    → verdict (run_record (hall_opened opening) before) entry ≡ None
    → is_some (out_of (run_record (hall_opened opening) before) entry).start ≡ true

-- An allowed Search starts a battle exactly where it is matched, whatever the history is before it.
abbrev pub HallMatchesStart : Type 0
HallMatchesStart = (opening : HallOpening) (before : List HallEntry) (entry : HallEntry) (format : List ℕ) (badge : Badge)
    → entry.cmd ≡ Search format → badge_of (run_record (hall_opened opening) before) entry.conn ≡ Some badge
    → verdict (run_record (hall_opened opening) before) entry ≡ None
    → is_some (out_of (run_record (hall_opened opening) before) entry).start
    ≡ is_some (opponent (run_record (hall_opened opening) before) (id_of badge.name) format)
