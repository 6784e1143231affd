-- Alike teams: two teams before their battle are equal but for hidden places.
use Rattle.std.specs.Prelude.{◌≡◌, ◌≤◌, ◌<◌, ℕ, Bool, true, false, List, length, slice_index_or}
use Rattle.ps_mon.specs.declared.team.BattleTeam.{BattleTeam}
use Rattle.ps_mon.specs.declared.team.Member.{Member}
use Rattle.ps_mon.specs.Reading.{no_member}
use Rattle.ps_battle.specs.Openings.{team_of}
use Rattle.battle_secrecy.specs.Places.{Hidden}
use Rattle.battle_secrecy.specs.Alike.{AreMembersAlike}

-- a team has 1 to 6 members
pub record IsSized (team : BattleTeam) : Type 0 where
  pub count : 1 ≤ team.count
  pub count_high : team.count ≤ 6
  pub long : team.count ≤ length team.members

abbrev pub teammate : BattleTeam → ℕ → Member
teammate team member = slice_index_or team.members member no_member

-- what Team Preview shows of a member is equal
pub record AreKindsSame (one two : Member) : Type 0 where
  pub species : one.species ≡ two.species
  pub level : one.level ≡ two.level

-- The first member, which is active at the opening, isn't hidden; or what Team Preview shows of all members is equal. What stands past
-- the members is equal.
pub record AreTeamsAlike (preview : Bool) (member : ℕ → Bool) (slot : ℕ → ℕ → Bool) (move : ℕ → ℕ → ℕ) (one two : BattleTeam) : Type 0 where
  pub first : IsSized one
  pub second : IsSized two
  pub count : one.count ≡ two.count
  pub active : preview ≡ false → member 0 ≡ false
  pub kinds : preview ≡ true → (index : ℕ) → index < one.count → AreKindsSame (teammate one index) (teammate two index)
  pub members : (index : ℕ) → index < one.count
      → AreMembersAlike (member index) (slot index) (move index) (teammate one index) (teammate two index)
  pub long : length one.members ≡ length two.members
  pub rest : (index : ℕ) → one.count ≤ index → teammate one index ≡ teammate two index

-- the teams of both sides
abbrev pub AreBothTeamsAlike : Bool → Hidden → List BattleTeam → List BattleTeam → Type 0
AreBothTeamsAlike preview hidden one two = (side : ℕ) → side < 2 →
    AreTeamsAlike preview (hidden.member side) (hidden.slot side) (hidden.move side) (team_of one side) (team_of two side)
