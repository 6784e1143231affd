-- For the code: the teams that are kept with searches, at their numbers, found by user.
use Rattle.hall_index.specs.Numbered.{AreBelow}
use Rattle.hall_index.specs.IdIndices.{IsIndexed}
use Rattle.hall_index.specs.Finds.{AreApart}
use Rattle.ps_hall.specs.declared.search_teams.Table.{Table}
use Rattle.ps_hall.specs.Lookups.{is_kept_of}

-- the teams stand at numbers below the next, and the index finds each at its user
pub record AreNumbered (table : Table) : Type 0 where
  pub below : AreBelow table.next table.teams
  pub apart : AreApart table.teams
  pub by_user : IsIndexed is_kept_of table.next table.teams table.users
