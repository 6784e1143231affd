-- For the code: the index of a kept team, and teams that can open a battle.
use Rattle.std.specs.Prelude.{◌≡◌, ℕ, ◌<◌, List, length, All}
use Rattle.std.specs.List.{remove}
use Rattle.ps_dex.specs.declared.item.Tables.{Tables}
use Rattle.ps_valid.specs.Ready.{IsReady}
use Rattle.ps_hall.specs.declared.kept.KeptTeam.{KeptTeam}
use Rattle.ps_hall.specs.Records.{Record}
use Rattle.ps_hall.specs.Lookups.{without_kept}

-- it is the index, counted from 0, of the first team of a user that was kept with an id
pub record IsKeptIndex (ks : List KeptTeam) (user with_id : List ℕ) (index : ℕ) : Type 0 where
  pub below : index < length ks
  pub left : without_kept user with_id ks ≡ remove ks index

abbrev pub IsKeptReady : Tables → KeptTeam → Type 0
IsKeptReady dex kept = IsReady dex kept.team

-- all teams that are kept can open a battle
pub record AreReady (hall : Record) : Type 0 where
  pub challenge_teams : All (IsKeptReady hall.dex) hall.challenge_teams
  pub search_teams : All (IsKeptReady hall.dex) hall.search_teams
