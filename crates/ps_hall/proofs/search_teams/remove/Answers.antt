use Rattle.ps_hall.proofs.SearchTeamLemmas.{kept_gone}
use Rattle.ps_hall.proofs.search_teams.remove.Goals as goal

pub returns-clause-kept : goal.returns-clause-kept
returns-clause-kept c = kept_gone c.args.table.now c.requires c.args.number c.take.new.self c.remove.new.self c.as_str.result.now c.take.ensures.after c.remove.ensures
