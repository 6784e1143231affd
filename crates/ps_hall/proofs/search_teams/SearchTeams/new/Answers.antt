use Rattle.ps_hall.proofs.SearchTeamLemmas.{kept_new}
use Rattle.ps_hall.proofs.search_teams.SearchTeams.new.Goals as goal

pub invariant_of-result : goal.invariant_of-result
invariant_of-result c = kept_new c.new.result c.new-2.result c.new.ensures c.new-2.ensures
