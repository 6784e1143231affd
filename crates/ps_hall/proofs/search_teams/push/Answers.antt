use Rattle.std.proofs.Common.{ap}
use Rattle.hall_index.specs.Numbered.{items_of}
use Rattle.ps_hall.proofs.SearchTeamLemmas.{kept_pushed, kept_undone, back}
use Rattle.ps_hall.proofs.search_teams.push.Goals as goal

pub returns-in-Err-clause-kept : goal.returns-in-Err-clause-kept
returns-in-Err-clause-kept c = kept_undone c.args.table.now c.requires c.args.kept c.append.new.self c.take.new.self c.index_last.new.users c.in_ok-append.ensures.ok c.take.ensures.after c.in-Err.ensures.err

pub returns-in-Err-clause-err : goal.returns-in-Err-clause-err
returns-in-Err-clause-err c = ap (λ l. items_of l) (back c.args.table.now c.requires c.args.kept c.append.new.self c.take.new.self c.in_ok-append.ensures.ok c.take.ensures.after)

pub returns-in-Ok-clause-kept : goal.returns-in-Ok-clause-kept
returns-in-Ok-clause-kept c = kept_pushed c.args.table.now c.requires c.args.kept c.in_ok-next.next c.append.new.self c.index_last.new.users c.in_ok-next.ensures c.in_ok-append.ensures.ok c.in-Ok.ensures.ok
