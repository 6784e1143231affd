-- A team before its battle, and its side at the opening.
use Rattle.std.specs.Prelude.{◌≡◌, ℕ, false, None, ◌<◌, ◌≤◌, [], ◌∷◌, slice_index_or}
use Rattle.ps_mon.specs.declared.team.BattleTeam.{BattleTeam}
use Rattle.ps_mon.specs.declared.team.Member.{Member}
use Rattle.ps_mon.specs.declared.status.Status.TheVariants.{Healthy}
use Rattle.ps_mon.specs.declared.record.SideState.{SideState}
use Rattle.ps_mon.specs.declared.record.Volatiles.{Volatiles}
use Rattle.ps_mon.specs.Reading.{no_member, no_volatiles, slot_of}
use Rattle.ps_mon.specs.Valid.{IsMember}
use Rattle.ps_mon.specs.Known.{AreOwnKnown}

-- a member that nothing has happened to
pub record IsFreshMember (member : Member) : Type 0 where
  pub ranges : IsMember member
  pub healthy : member.status ≡ Healthy
  pub counter : member.counter ≡ 0
  pub rested : member.rested ≡ false
  pub full : member.hp ≡ member.max
  pub pp : (slot : ℕ) → slot < member.slot_count → 1 ≤ (slot_of member slot).pp

pub record IsFresh (team : BattleTeam) : Type 0 where
  pub count : 1 ≤ team.count
  pub count_high : team.count ≤ 6
  pub members : (index : ℕ) → index < team.count → IsFreshMember (slice_index_or team.members index no_member)

-- the moves of a team are among so many
abbrev pub IsTeamKnown : ℕ → BattleTeam → Type 0
IsTeamKnown moves team = (index : ℕ) → index < team.count → AreOwnKnown moves (slice_index_or team.members index no_member)

-- what a member has when it comes in
abbrev pub calm : Volatiles
calm = record no_volatiles { slots = record { mimic = None ∷ None ∷ None ∷ None ∷ []; copied = None } }

-- the members in the team's order, the first one active
abbrev pub opened : BattleTeam → SideState
opened team = record { members = team.members; count = team.count; order = 0 ∷ 1 ∷ 2 ∷ 3 ∷ 4 ∷ 5 ∷ []; vol = calm }
