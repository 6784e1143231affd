use Rattle.std.proofs.Common.{◌≡◌, length}
use Rattle.hall_index.specs.Numbered.{items_of}
use Rattle.hall_index.specs.IdIndices.{numbers_at}
use Rattle.ps_hall.specs.Lookups.{without_user}
use Rattle.ps_hall.specs.SearchTeams.{AreNumbered}
use Rattle.ps_hall.proofs.search_teams.drop_user.Given as goal

abbrev pub invariant-loop-number : goal.invariant-loop-number
invariant-loop-number l = AreNumbered l.table × (without_user l.user (items_of l.table.teams) ≡ without_user l.user (items_of l.fn.table.teams))

abbrev pub decreases-loop-number : goal.decreases-loop-number
decreases-loop-number l = length (numbers_at l.table.users l.user)
