-- When two stories are the same to a connection.
use Rattle.std.specs.Prelude.{◌≡◌, ℕ, ◌<◌, ◌≤◌, Bool, true, false, Option, Some, None, List, [], ◌∷◌, ◌++◌, length, unwrap_or, slice_get}
use Rattle.ps_mon.specs.declared.team.Member.{Member}
use Rattle.ps_mon.specs.declared.team.MoveSlot.{MoveSlot}
use Rattle.ps_mon.specs.Reading.{slot_of}
use Rattle.rules_start.specs.declared.start.Start.{Start}
use Rattle.rules_start.specs.Fits.{legal_of}
use Rattle.battle_secrecy.specs.Places.{Hidden}
use Rattle.battle_secrecy.specs.Alike.{front_of}
use Rattle.ps_room.specs.declared.entry.Entry.{Entry}
use Rattle.ps_room.specs.Openings.{Opening, IsFitOpening}
use Rattle.ps_room.specs.Records.{Record, opened}
use Rattle.ps_room.specs.Rooms.{verdict, after, run_record}
use Rattle.ps_room.specs.Stories.{Story, story}
use Rattle.ps_laws.specs.Users.{users}
use Rattle.ps_laws.specs.Hidden.{hidden_in_both, is_previewed, member_in}
use Rattle.ps_laws.specs.Rounds.{round_of}
use Rattle.ps_laws.specs.Low.{items_of, low_from, low}
use Rattle.ps_lines.specs.declared.command.Command.TheVariants.{Choose, Undo}

-- ---- openings that differ in hidden places alone

-- a hidden slot may hold anything
abbrev pub IsSlotSame : Bool → MoveSlot → MoveSlot → Type 0
IsSlotSame true one two = Unit {0}
IsSlotSame false one two = one ≡ two

-- all but the hidden slots is equal, so both have equally many slots
pub record AreEqualMembers (hides : ℕ → Bool) (one two : Member) : Type 0 where
  pub front : front_of one ≡ front_of two
  pub long : length one.slots ≡ length two.slots
  pub slots : (slot : ℕ) → IsSlotSame (hides slot) (slot_of one slot) (slot_of two slot)

-- what Team Preview makes known of each member: its species, its level, and what the dex says of the species
pub record AreKindsEqual (one two : Member) : Type 0 where
  pub species : one.species ≡ two.species
  pub level : one.level ≡ two.level
  pub types : one.types ≡ two.types
  pub base_speed : one.base_speed ≡ two.base_speed

abbrev pub IsKindSame : Bool → Member → Member → Type 0
IsKindSame true one two = AreKindsEqual one two
IsKindSame false one two = Unit {0}

-- a hidden member may be anything, but for what Team Preview makes known
abbrev pub IsMemberSame : Bool → Bool → (ℕ → Bool) → Member → Member → Type 0
IsMemberSame preview true hides one two = IsKindSame preview one two
IsMemberSame preview false hides one two = AreEqualMembers hides one two

-- and its nickname
abbrev pub IsNickSame : Bool → List ℕ → List ℕ → Type 0
IsNickSame true one two = Unit {0}
IsNickSame false one two = one ≡ two

-- the nickname of a member of a team, by side and place
abbrev pub nick_in : Start → ℕ → ℕ → List ℕ
nick_in st side member = unwrap_or (slice_get (legal_of st.teams side).nicks member) []

-- the teams of a side; what stands past the members is equal
pub record AreTeamsSame (preview : Bool) (places : Hidden) (one two : Start) (side : ℕ) : Type 0 where
  pub count : (legal_of one.teams side).team.count ≡ (legal_of two.teams side).team.count
  pub members : (member : ℕ) → member < (legal_of one.teams side).team.count →
      IsMemberSame preview (places.member side member) (places.slot side member) (member_in one side member) (member_in two side member)
  pub long : length (legal_of one.teams side).team.members ≡ length (legal_of two.teams side).team.members
  pub rest : (member : ℕ) → (legal_of one.teams side).team.count ≤ member → member_in one side member ≡ member_in two side member
  pub nicks : (member : ℕ) → IsNickSame (places.member side member) (nick_in one side member) (nick_in two side member)

pub record AreStartsSame (preview : Bool) (places : Hidden) (one two : Start) : Type 0 where
  pub number : one.number ≡ two.number
  pub format : one.format ≡ two.format
  pub players : one.players ≡ two.players
  pub seed : one.seed ≡ two.seed
  pub teams : (side : ℕ) → side < 2 → AreTeamsSame preview places one two side

-- both open a chat room, or both open a battle
abbrev pub AreBattlesSame : Bool → Hidden → Option Start → Option Start → Type 0
AreBattlesSame preview places None None = Unit {0}
AreBattlesSame preview places (Some one) (Some two) = AreStartsSame preview places one two
AreBattlesSame preview places one two = ⊥

pub record AreOpenedAlike (places : Hidden) (one two : Opening) : Type 0 where
  pub no : one.no ≡ two.no
  pub id : one.id ≡ two.id
  pub title : one.title ≡ two.title
  pub config : one.config ≡ two.config
  pub dex : one.dex ≡ two.dex
  pub battle : AreBattlesSame (is_previewed one.config one.battle) places one.battle two.battle

-- ---- stories

pub record AreSame (conn : ℕ) (one two : Story) : Type 0 where
  -- both openings can be a room's,
  pub first : IsFitOpening one.opening
  pub second : IsFitOpening two.opening
  -- the low histories are equal,
  pub histories : low conn one ≡ low conn two
  -- and the openings are equal, but for places that are hidden in both
  pub openings : AreOpenedAlike (hidden_in_both conn one two) one.opening two.opening

-- ---- such stories there are

-- In a chat room an entry that has no item where it stands may as well be missing: the story with it and the story without it are
-- the same to the connection.
abbrev pub UnshownMayBeMissing : Type 0
UnshownMayBeMissing = (conn : ℕ) (opening : Opening) (before : List Entry) (entry : Entry) (later : List Entry) → opening.battle ≡ None
    → items_of conn (users conn (story opening (before ++ later))) (run_record (opened opening) before) entry ≡ []
    → AreSame conn (story opening (before ++ entry ∷ later)) (story opening (before ++ later))

-- In every room so may entries that have no items where they stand, and together leave the record as it was.
abbrev pub IdleMayBeMissing : Type 0
IdleMayBeMissing = (conn : ℕ) (opening : Opening) (before es later : List Entry) → IsFitOpening opening
    → low_from conn (users conn (story opening (before ++ later))) (run_record (opened opening) before) es ≡ []
    → run_record (run_record (opened opening) before) es ≡ run_record (opened opening) before
    → AreSame conn (story opening (before ++ (es ++ later))) (story opening (before ++ later))

-- A choice that waits and is taken back at once leaves the record as it was.
abbrev pub UndoneLeavesNothing : Type 0
UndoneLeavesNothing = (room : Record) (entry undo : Entry) (choice : List ℕ) (rqid : Option ℕ)
    → entry.cmd ≡ Choose choice rqid → undo.cmd ≡ Undo → undo.conn ≡ entry.conn
    → verdict room entry ≡ None → round_of room entry ≡ None → verdict (after room entry) undo ≡ None
    → after (after room entry) undo ≡ room
