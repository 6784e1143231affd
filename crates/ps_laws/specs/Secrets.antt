-- What may differ in a room that a connection isn't told: worlds with it and without it, or with something else in its place, give the
-- connection equal views. Each premise is of the world.
use Rattle.std.specs.Prelude.{◌≡◌, ◌≢◌, ℕ, ◌<◌, Bool, true, false, ◌||◌, List, [], ◌∷◌, ◌++◌, Option, Some, None, is_some, slice_set}
use Rattle.std.specs.List.{list_any}
use Rattle.ps_base.specs.Ids.{id_of}
use Rattle.ps_lines.specs.declared.command.Command.{Command}
use Rattle.ps_lines.specs.declared.command.Command.TheVariants.{Modnote, Choose, Undo}
use Rattle.ps_mon.specs.declared.team.BattleTeam.{BattleTeam}
use Rattle.ps_mon.specs.declared.team.Member.{Member}
use Rattle.ps_mon.specs.declared.team.MoveSlot.{MoveSlot}
use Rattle.ps_mon.specs.Reading.{slot_of}
use Rattle.ps_dex.specs.declared.item.Tables.{Tables}
use Rattle.ps_dex.specs.Lookups.{move_of}
use Rattle.ps_choice.specs.Wants.{Want, Named, want_in}
use Rattle.ps_valid.specs.declared.legal.Legal.{Legal}
use Rattle.rules_start.specs.declared.start.Start.{Start}
use Rattle.rules_start.specs.Fits.{legal_of}
use Rattle.battle_rounds.specs.Bouts.{waiting}
use Rattle.battle_rounds.specs.Fights.{Fight}
use Rattle.ps_chat.specs.declared.present.Present.{Present}
use Rattle.ps_room.specs.declared.entry.Entry.{Entry}
use Rattle.ps_room.specs.Openings.{Opening, IsFitOpening}
use Rattle.ps_room.specs.Records.{Record, opened}
use Rattle.ps_room.specs.Roles.{side_of_member}
use Rattle.ps_room.specs.Rooms.{sender_of, verdict, after, run_record}
use Rattle.ps_room.specs.Stories.{story, view_of}
use Rattle.ps_room.specs.Unseen.{sees_notes}
use Rattle.ps_laws.specs.Users.{users}
use Rattle.ps_laws.specs.Rounds.{Round, round_of, rounds}
use Rattle.ps_laws.specs.Hidden.{member_in, spot_at, is_told, is_previewed, hidden}
use Rattle.ps_laws.specs.Low.{is_own}
use Rattle.ps_laws.specs.Same.{AreKindsEqual}

-- ---- a member of the other side that was never sent out

-- a battle's start with another team of a side
abbrev pub with_team : Start → ℕ → Legal → Start
with_team st side legal = record st { teams = slice_set st.teams side legal }

-- a team with another member at a place
abbrev pub member_put : BattleTeam → ℕ → Member → BattleTeam
member_put team index member = record team { members = slice_set team.members index member }

-- a battle's start with another member at a place of a side's team, and with another nickname
abbrev pub with_member : Start → ℕ → ℕ → Member → List ℕ → Start
with_member st side index member nick =
    let legal = legal_of st.teams side in
    with_team st side (record { team = member_put legal.team index member; nicks = slice_set legal.nicks index nick })

-- a room of a battle
abbrev pub with_start : Opening → Start → Opening
with_start opening st = record opening { battle = Some st }

-- A member that is hidden to the connection, since its side is no own one and it was never sent out, may as well be any other one that the
-- battle can start with, of any nickname; under Team Preview any of its species and level.
abbrev pub MembersMayDiffer : ℕ → Type 0
MembersMayDiffer conn = (opening : Opening) (st : Start) (history : List Entry) (side index : ℕ) (member : Member) (nick : List ℕ)
    → IsFitOpening (with_start opening st) → IsFitOpening (with_start opening (with_member st side index member nick))
    → side < 2 → (hidden conn (story (with_start opening st) history)).member side index ≡ true
    → (is_previewed opening.config (Some st) ≡ true → AreKindsEqual (member_in st side index) member)
    → view_of conn (story (with_start opening st) history)
    ≡ view_of conn (story (with_start opening (with_member st side index member nick)) history)

-- ---- a slot of the other side that was never shown

-- a battle's start with another move, and its PP, in a slot of a member
abbrev pub with_slot : Start → ℕ → ℕ → ℕ → MoveSlot → Start
with_slot st side member index slot =
    let legal = legal_of st.teams side in
    let old = member_in st side member in
    with_team st side (record legal { team = member_put legal.team member (record old { slots = slice_set old.slots index slot }) })

-- the move that a player asks for by its name, if there is one of that name
abbrev pub named_in : Tables → Option Want → Option ℕ
named_in dex (Some (Named name)) = move_of (id_of name) dex
named_in dex other = None

-- a command of a side's player asks by name for neither of two moves
abbrev pub NamesNeither : ℕ → ℕ → ℕ → Option Fight → Option Present → Command → Type 0
NamesNeither side one two (Some fight) me (Choose choice rqid) =
    side_of_member fight.cast me ≡ Some side → (mv : ℕ) → named_in fight.cast.dex (want_in choice) ≡ Some mv → (one ≢ mv) × (two ≢ mv)
NamesNeither side one two fo me cmd = Unit {0}

-- and so do all commands of a history, from a record on
abbrev pub AllNameNeither : ℕ → ℕ → ℕ → Record → List Entry → Type 0
AllNameNeither side one two room [] = Unit {0}
AllNameNeither side one two room (entry ∷ entries) = NamesNeither side one two room.battle (sender_of room entry) entry.cmd
    × AllNameNeither side one two (after room entry) entries

-- A slot that is hidden to the connection, since its side is no own one and no round showed it, may as well have any other move, of
-- any PP, that the battle can start with and that its member neither used nor had named or copied. Its player never asks by name
-- for one of both moves, also in vain: a choice by name of a move that the member hasn't is refused, and would be allowed.
abbrev pub SlotsMayDiffer : ℕ → Type 0
SlotsMayDiffer conn = (opening : Opening) (st : Start) (history : List Entry) (side member index : ℕ) (slot : MoveSlot)
    → IsFitOpening (with_start opening st) → IsFitOpening (with_start opening (with_slot st side member index slot))
    → side < 2 → member < (legal_of st.teams side).team.count
    → (hidden conn (story (with_start opening st) history)).slot side member index ≡ true
    → list_any (is_told (with_slot st side member index slot) (spot_at side member index))
    (rounds (story (with_start opening st) history)) ≡ false
    → AllNameNeither side (slot_of (member_in st side member) index).mv slot.mv (opened (with_start opening st)) history
    → view_of conn (story (with_start opening st) history)
    ≡ view_of conn (story (with_start opening (with_slot st side member index slot)) history)

-- ---- a choice that no round has

abbrev pub is_choose : Command → Bool
is_choose (Choose choice rqid) = true
is_choose other = false

-- the side that a member plays
abbrev pub side_in : Option Fight → Option Present → Option ℕ
side_in None me = None
side_in (Some fight) me = side_of_member fight.cast me

-- whether a choice of a side waits
abbrev pub waits_in : Option Fight → ℕ → Bool
waits_in None side = false
waits_in (Some fight) side = is_some (waiting fight.bout side)

-- As long as a choice of the side waits, no entry of a history completes a round: it is taken back, or somebody gives up, or the
-- history ends.
abbrev pub IsNeverPlayed : ℕ → Record → List Entry → Type 0
IsNeverPlayed side room [] = Unit {0}
IsNeverPlayed side room (entry ∷ entries) =
    waits_in room.battle side ≡ true → ((round_of room entry ≡ None) × IsNeverPlayed side (after room entry) entries)

-- An allowed choice of a side's player, where it stands: it is neither of the connection nor of one of its users, and completes no
-- round, neither at once nor later.
pub record IsUnplayed (conn : ℕ) (ids : List (List ℕ)) (room : Record) (player : ℕ) (entry : Entry) (later : List Entry) : Type 0 where
  pub chooses : is_choose entry.cmd ≡ true
  pub other : is_own conn ids room entry ≡ false
  pub side : side_in room.battle (sender_of room entry) ≡ Some player
  pub allowed : verdict room entry ≡ None
  pub waits : round_of room entry ≡ None
  pub never : IsNeverPlayed player (after room entry) later

-- Such a choice may as well be missing.
abbrev pub ChoicesMayBeMissing : ℕ → Type 0
ChoicesMayBeMissing conn = (opening : Opening) (before : List Entry) (side : ℕ) (entry : Entry) (later : List Entry) → IsFitOpening opening
    → IsUnplayed conn (users conn (story opening (before ++ entry ∷ later))) (run_record (opened opening) before) side entry later
    → view_of conn (story opening (before ++ entry ∷ later)) ≡ view_of conn (story opening (before ++ later))

-- And its player may choose anything else in its place that completes no round at once.
abbrev pub ChoicesMayDiffer : ℕ → Type 0
ChoicesMayDiffer conn = (opening : Opening) (before : List Entry) (side : ℕ) (entry other : Entry) (later : List Entry)
    → IsFitOpening opening
    → IsUnplayed conn (users conn (story opening (before ++ entry ∷ later))) (run_record (opened opening) before) side entry later
    → other.conn ≡ entry.conn → is_choose other.cmd ≡ true → round_of (run_record (opened opening) before) other ≡ None
    → view_of conn (story opening (before ++ entry ∷ later)) ≡ view_of conn (story opening (before ++ other ∷ later))

-- ---- who chose first

abbrev pub is_undo : Command → Bool
is_undo Undo = true
is_undo other = false

-- no choices, and none that is taken back
abbrev pub AreNoChoices : List Entry → Type 0
AreNoChoices [] = Unit {0}
AreNoChoices (entry ∷ entries) = ((is_choose entry.cmd || is_undo entry.cmd) ≡ false) × AreNoChoices entries

-- Two choices complete the same round, whichever of them comes first; between them nobody chooses.
pub record IsEitherFirst (room : Record) (one : Entry) (middle : List Entry) (two : Entry) (round : Round) : Type 0 where
  pub first : is_choose one.cmd ≡ true
  pub second : is_choose two.cmd ≡ true
  pub between : AreNoChoices middle
  pub waits : round_of room one ≡ None
  pub waits_too : round_of room two ≡ None
  pub completes : round_of (run_record (after room one) middle) two ≡ Some round
  pub completes_too : round_of (run_record (after room two) middle) one ≡ Some round

-- To a player of one side it may be either that comes first, of two that stand next to each other. (Who plays both sides
-- knows.)
abbrev pub OrderMayDiffer : ℕ → Type 0
OrderMayDiffer conn = (opening : Opening) (before : List Entry) (one two : Entry) (later : List Entry) (round : Round)
    → IsFitOpening opening
    → IsEitherFirst (run_record (opened opening) before) one [] two round
    → is_own conn (users conn (story opening (before ++ one ∷ two ∷ later))) (run_record (opened opening) before) two ≡ false
    → view_of conn (story opening (before ++ one ∷ two ∷ later)) ≡ view_of conn (story opening (before ++ two ∷ one ∷ later))

-- neither is of the connection or one of its users, where they stand
pub record AreForeign (conn : ℕ) (ids : List (List ℕ)) (room : Record) (one : Entry) (middle : List Entry) (two : Entry) : Type 0 where
  pub first : is_own conn ids room one ≡ false
  pub second : is_own conn ids room two ≡ false
  pub first_late : is_own conn ids (run_record (after room two) middle) one ≡ false
  pub second_late : is_own conn ids (run_record (after room one) middle) two ≡ false

-- To who looks on it may be either that comes first, also where others do something between them.
abbrev pub OrderIsUnseen : ℕ → Type 0
OrderIsUnseen conn = (opening : Opening) (before : List Entry) (one : Entry) (middle : List Entry) (two : Entry) (later : List Entry)
    (round : Round) → IsFitOpening opening → IsEitherFirst (run_record (opened opening) before) one middle two round
    → AreForeign conn (users conn (story opening (before ++ one ∷ (middle ++ two ∷ later)))) (run_record (opened opening) before) one
    middle two
    → view_of conn (story opening (before ++ one ∷ (middle ++ two ∷ later)))
    ≡ view_of conn (story opening (before ++ two ∷ (middle ++ one ∷ later)))

-- ---- staff notes

abbrev pub is_note : Command → Bool
is_note (Modnote text) = true
is_note other = false

-- a staff note, allowed or not, where it stands: it is neither of the connection nor of one of its users, and the connection sees no
-- staff notes
pub record IsUnseenNote (conn : ℕ) (ids : List (List ℕ)) (room : Record) (entry : Entry) : Type 0 where
  pub note : is_note entry.cmd ≡ true
  pub other : is_own conn ids room entry ≡ false
  pub unseen : sees_notes conn room ≡ false

-- In every room such a note may as well be missing.
abbrev pub NotesMayBeMissing : ℕ → Type 0
NotesMayBeMissing conn = (opening : Opening) (before : List Entry) (entry : Entry) (later : List Entry) → IsFitOpening opening
    → IsUnseenNote conn (users conn (story opening (before ++ entry ∷ later))) (run_record (opened opening) before) entry
    → view_of conn (story opening (before ++ entry ∷ later)) ≡ view_of conn (story opening (before ++ later))

-- And another one may stand in its place.
abbrev pub NotesMayDiffer : ℕ → Type 0
NotesMayDiffer conn = (opening : Opening) (before : List Entry) (entry other : Entry) (later : List Entry) → IsFitOpening opening
    → IsUnseenNote conn (users conn (story opening (before ++ entry ∷ later))) (run_record (opened opening) before) entry
    → IsUnseenNote conn (users conn (story opening (before ++ other ∷ later))) (run_record (opened opening) before) other
    → view_of conn (story opening (before ++ entry ∷ later)) ≡ view_of conn (story opening (before ++ other ∷ later))
