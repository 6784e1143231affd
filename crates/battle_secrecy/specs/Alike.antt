-- Alike: two battles are equal but for hidden places.
use Rattle.std.specs.Prelude.{◌≡◌, ◌⊎◌, ◌≤◌, ◌<◌, ℕ, Bool, true, false, [], length, slice_index}
use Rattle.ps_mon.specs.declared.record.Battle.{Battle}
use Rattle.ps_mon.specs.declared.record.SideState.{SideState}
use Rattle.ps_mon.specs.declared.record.Phase.{Phase}
use Rattle.ps_mon.specs.declared.record.Phase.TheVariants as phases
use Rattle.ps_mon.specs.declared.team.Member.{Member}
use Rattle.ps_mon.specs.declared.team.MoveSlot.{MoveSlot}
use Rattle.ps_mon.specs.declared.status.Status.TheVariants.{Healthy}
use Rattle.ps_mon.specs.Reading.{side_of, active_index, member_of, slot_of}
use Rattle.battle_secrecy.specs.Places.{Hidden}

-- a member that nothing has happened to: it is healthy and has its greatest health, which is at least 1
pub record IsUnhurt (member : Member) : Type 0 where
  pub healthy : member.status ≡ Healthy
  pub full : member.hp ≡ member.max
  pub stands : 1 ≤ member.max

-- all of a member but its slots
abbrev pub front_of : Member → Member
front_of member = record member { slots = [] }

-- a hidden slot has PP left in both, and the first of them has that move
abbrev pub AreSlotsAlike : Bool → ℕ → MoveSlot → MoveSlot → Type 0
AreSlotsAlike false mv one two = one ≡ two
AreSlotsAlike true mv one two = (one.mv ≡ mv) × (1 ≤ one.pp) × (1 ≤ two.pp)

-- a member that isn't hidden is equal but for its hidden slots
pub record AreShownAlike (hides : ℕ → Bool) (moves : ℕ → ℕ) (one two : Member) : Type 0 where
  pub four : length one.slots ≡ 4
  pub four_too : length two.slots ≡ 4
  pub front : front_of one ≡ front_of two
  pub slots : (slot : ℕ) → AreSlotsAlike (hides slot) (moves slot) (slot_of one slot) (slot_of two slot)

-- of a hidden one nothing need be equal
abbrev pub AreMembersAlike : Bool → (ℕ → Bool) → (ℕ → ℕ) → Member → Member → Type 0
AreMembersAlike false hides moves one two = AreShownAlike hides moves one two
AreMembersAlike true hides moves one two = IsUnhurt one × IsUnhurt two

-- each position has a member
pub record IsPlaced (side : SideState) : Type 0 where
  pub count : 1 ≤ side.count
  pub count_high : side.count ≤ 6
  pub long : side.count ≤ length side.members
  pub six_order : length side.order ≡ 6
  pub order : (position : ℕ) → position < side.count → slice_index side.order position < side.count

-- the active member isn't hidden; what stands past the members is equal
pub record AreSidesAlike (member : ℕ → Bool) (slot : ℕ → ℕ → Bool) (move : ℕ → ℕ → ℕ) (one two : SideState) : Type 0 where
  pub first : IsPlaced one
  pub second : IsPlaced two
  pub count : one.count ≡ two.count
  pub order : one.order ≡ two.order
  pub vol : one.vol ≡ two.vol
  pub active : member (active_index one) ≡ false
  pub members : (index : ℕ) → index < one.count
      → AreMembersAlike (member index) (slot index) (move index) (member_of one index) (member_of two index)
  pub long : length one.members ≡ length two.members
  pub rest : (index : ℕ) → one.count ≤ index → member_of one index ≡ member_of two index

pub record AreAlike (hidden : Hidden) (one two : Battle) : Type 0 where
  pub first_two : length one.sides ≡ 2
  pub second_two : length two.sides ≡ 2
  pub turn : one.turn ≡ two.turn
  pub phase : one.phase ≡ two.phase
  pub clauses : one.clauses ≡ two.clauses
  pub rng : one.rng ≡ two.rng
  pub sides : (side : ℕ) → side < 2 → AreSidesAlike (hidden.member side) (hidden.slot side) (hidden.move side) (side_of one side)
      (side_of two side)

-- ---- also before members are sent out

-- alike sides, of which nothing is said of who stands at position 1
pub record AreSidesAlikeUnsent (member : ℕ → Bool) (slot : ℕ → ℕ → Bool) (move : ℕ → ℕ → ℕ) (one two : SideState) : Type 0 where
  pub first : IsPlaced one
  pub second : IsPlaced two
  pub count : one.count ≡ two.count
  pub order : one.order ≡ two.order
  pub vol : one.vol ≡ two.vol
  pub members : (index : ℕ) → index < one.count
      → AreMembersAlike (member index) (slot index) (move index) (member_of one index) (member_of two index)
  pub long : length one.members ≡ length two.members
  pub rest : (index : ℕ) → one.count ≤ index → member_of one index ≡ member_of two index

-- phases in which nobody may be sent out yet: Team Preview, and a battle that was won, since that may have been by a forfeit in it
abbrev pub IsUnsent : Phase → Type 0
IsUnsent phases.Preview = Unit {0}
IsUnsent (phases.Won side) = Unit {0}
IsUnsent other = ⊥

-- the active members aren't hidden
abbrev pub AreActiveShown : Hidden → Battle → Type 0
AreActiveShown hidden battle = (side : ℕ) → side < 2 → hidden.member side (active_index (side_of battle side)) ≡ false

-- Battles between two rounds: alike, and where members are sent out the active ones aren't hidden.
pub record AreBattlesAlike (hidden : Hidden) (one two : Battle) : Type 0 where
  pub first_two : length one.sides ≡ 2
  pub second_two : length two.sides ≡ 2
  pub turn : one.turn ≡ two.turn
  pub phase : one.phase ≡ two.phase
  pub clauses : one.clauses ≡ two.clauses
  pub rng : one.rng ≡ two.rng
  pub sides : (side : ℕ) → side < 2 → AreSidesAlikeUnsent (hidden.member side) (hidden.slot side) (hidden.move side)
      (side_of one side) (side_of two side)
  pub active : IsUnsent one.phase ⊎ AreActiveShown hidden one
