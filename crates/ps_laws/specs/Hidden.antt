-- Hidden places: what a battle's room holds that a connection wasn't shown.
use Rattle.std.specs.Prelude.{ℕ, Bool, false, ◌&&◌, ◌||◌, ◌==◌, ◌-◌, not, nat_lt, slice_index_or, Option, Some, None, List}
use Rattle.std.specs.List.{list_any}
use Rattle.ps_mon.specs.declared.choice.Choice.{Choice}
use Rattle.ps_mon.specs.declared.choice.Choice.TheVariants as choices
use Rattle.ps_mon.specs.declared.team.Member.{Member}
use Rattle.ps_mon.specs.declared.record.Battle.{Battle}
use Rattle.ps_mon.specs.Reading.{side_of, active_index, slot_of, no_member}
use Rattle.rules_config.specs.declared.settings.Settings.{Settings}
use Rattle.rules_start.specs.declared.start.Start.{Start}
use Rattle.rules_start.specs.Fits.{legal_of}
use Rattle.battle_secrecy.specs.Places.{Hidden}
use Rattle.battle_secrecy.specs.Showing.{shows_one}
use Rattle.battle_secrecy.specs.Laws.{forms}
use Rattle.ps_battle.specs.Openings.{previews}
use Rattle.ps_room.specs.Openings.{names_of, format_in, clauses_of_format}
use Rattle.ps_room.specs.Stories.{Story}
use Rattle.ps_laws.specs.Users.{users, is_own_side}
use Rattle.ps_laws.specs.Rounds.{Round, choice_of, rounds}

-- ---- members

-- a member of a team as the battle starts, by side and place
abbrev pub member_in : Start → ℕ → ℕ → Member
member_in start side member = slice_index_or (legal_of start.teams side).team.members member no_member

-- whether a battle's format has Team Preview, whose bit is 64
abbrev pub is_previewed : Settings → Option Start → Bool
is_previewed config None = false
is_previewed config (Some start) = previews (clauses_of_format (format_in config start))

-- whether a member was ever sent out: the first one is at the opening, but for a battle with Team Preview
abbrev pub has_stood : Bool → List Round → ℕ → ℕ → Bool
has_stood preview played side member =
    (not preview && member == 0) || list_any (λ round. active_index (side_of round.after side) == member) played

-- a member is hidden where its side isn't the connection's own and it was never sent out
abbrev pub is_member_hidden : Bool → Bool → Start → List Round → ℕ → ℕ → Bool
is_member_hidden preview own start played side member = not own && nat_lt member (legal_of start.teams side).team.count
    && not (has_stood preview played side member)

-- ---- slots

-- whether a choice names a slot, which counts from 1 in choices
abbrev pub names_slot : ℕ → Choice → Bool
names_slot slot (choices.Move number) = number - 1 == slot
names_slot slot other = false

-- the slot of a member of a side, in the order in which the battle starts
pub record Spot : Type 0 where
  pub side : ℕ
  pub member : ℕ
  pub slot : ℕ

abbrev pub spot_at : ℕ → ℕ → ℕ → Spot
spot_at side member slot = record { side = side; member = member; slot = slot }

abbrev pub member_of : Start → Spot → Member
member_of start spot = member_in start spot.side spot.member

-- the move that stands there as the battle starts
abbrev pub move_of : Start → Spot → ℕ
move_of start spot = (slot_of (member_of start spot) spot.slot).mv

-- whether the member of a spot is active in a battle
abbrev pub is_active : Battle → Spot → Bool
is_active battle spot = active_index (side_of battle spot.side) == spot.member

-- whether a slot's number was in the choice of a round while its member was active
abbrev pub is_chosen : Spot → Round → Bool
is_chosen spot round = is_active round.before spot && names_slot spot.slot (choice_of round spot.side)

-- whether an event of a round shows the slot: its move was used by its member or named by an event of its member, or Mimic or
-- Transform copied it
abbrev pub is_told : Start → Spot → Round → Bool
is_told start spot round =
    shows_one spot.side spot.member (is_active round.after spot) (move_of start spot)
    (forms round.before round.first round.second spot.side spot.member) round.told

abbrev pub is_slot_shown : Start → Spot → Round → Bool
is_slot_shown start spot round = is_chosen spot round || is_told start spot round

-- a slot is hidden where its side isn't the connection's own and no round showed it
abbrev pub is_slot_hidden : Bool → Start → List Round → Spot → Bool
is_slot_hidden own start played spot = not own && nat_lt spot.slot (member_of start spot).slot_count
    && not (list_any (is_slot_shown start spot) played)

-- ---- a story

-- a chat room has neither members of a side nor slots
abbrev pub hidden_with : Bool → (ℕ → Bool) → Option Start → List Round → Hidden
hidden_with preview own None played = record
    { member = λ side member. false; slot = λ side member slot. false; move = λ side member slot. 0 }
hidden_with preview own (Some start) played = record {
  member = λ side member. is_member_hidden preview (own side) start played side member;
  slot = λ side member slot. is_slot_hidden (own side) start played (spot_at side member slot);
  move = λ side member slot. move_of start (spot_at side member slot);
}

-- which sides of a battle are a connection's own
abbrev pub own_sides : List (List ℕ) → Settings → Option Start → ℕ → Bool
own_sides ids config None side = false
own_sides ids config (Some start) side = is_own_side ids (names_of config start) side

-- the places that are hidden to a connection in a story
abbrev pub hidden : ℕ → Story → Hidden
hidden conn story =
    hidden_with (is_previewed story.opening.config story.opening.battle)
    (own_sides (users conn story) story.opening.config story.opening.battle)
    story.opening.battle (rounds story)

-- the places that are hidden in both of two stories; the moves are those of the first
abbrev pub hidden_in_both : ℕ → Story → Story → Hidden
hidden_in_both conn one two = record {
  member = λ side member. (hidden conn one).member side member && (hidden conn two).member side member;
  slot = λ side member slot. (hidden conn one).slot side member slot && (hidden conn two).slot side member slot;
  move = (hidden conn one).move;
}
