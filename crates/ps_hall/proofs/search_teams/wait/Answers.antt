use Rattle.std.proofs.Common.{◌∙◌}
use Rattle.ps_hall.proofs.SearchTeamLemmas.{undone}
use Rattle.ps_hall.proofs.search_teams.wait.Goals as goal

pub returns-in-Err-clause-err : goal.returns-in-Err-clause-err
returns-in-Err-clause-err c = (undone c.args.table.now c.requires c.args.kept c.push.new.table.teams c.undo.new.table.teams c.in_ok-push.ensures.ok c.undo.ensures.teams, c.in-Err.ensures.err)
