use Rattle.ps_hall.proofs.SearchTeamLemmas.{kept_none, kept_gone}
use Rattle.ps_hall.proofs.search_teams.undo.Goals as goal

pub returns-in-None-clause-kept : goal.returns-in-None-clause-kept
returns-in-None-clause-kept c = kept_none c.args.table.now c.requires c.args.number c.take.new.self c.take.ensures.after

pub returns-in-Some-clause-kept : goal.returns-in-Some-clause-kept
returns-in-Some-clause-kept c = kept_gone c.args.table.now c.requires c.args.number c.take.new.self c.remove.new.self c.as_str.result.now c.take.ensures.after c.remove.ensures
