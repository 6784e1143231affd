-- Which teams can open a battle.
use Rattle.std.specs.Prelude.{◌≡◌, ℕ, ◌<◌, length, slice_index_or}
use Rattle.ps_mon.specs.declared.team.BattleTeam.{BattleTeam}
use Rattle.ps_mon.specs.declared.team.Member.{Member}
use Rattle.ps_mon.specs.Known.{AreOwnKnown}
use Rattle.ps_mon.specs.Reading.{no_member}
use Rattle.ps_mon.specs.Teams.{IsFresh, IsFreshMember, IsTeamKnown}
use Rattle.ps_dex.specs.declared.item.Tables.{Tables}
use Rattle.ps_valid.specs.declared.legal.Legal.{Legal}

-- the species of a team are among so many
abbrev pub AreSpeciesKnown : ℕ → BattleTeam → Type 0
AreSpeciesKnown species team = (index : ℕ) → index < team.count → (slice_index_or team.members index no_member).species < species

-- a team that can open a battle over the dex
pub record IsReady (dex : Tables) (legal : Legal) : Type 0 where
  pub fresh : IsFresh legal.team
  pub moves : IsTeamKnown (length dex.moves) legal.team
  pub species : AreSpeciesKnown (length dex.species) legal.team
  pub nicks : length legal.nicks ≡ legal.team.count

-- a member of such a team
pub record IsReadyMember (dex : Tables) (member : Member) : Type 0 where
  pub fresh : IsFreshMember member
  pub moves : AreOwnKnown (length dex.moves) member
  pub species : member.species < length dex.species
