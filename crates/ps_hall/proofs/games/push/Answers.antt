use Rattle.std.proofs.Common.{ap}
use Rattle.hall_index.specs.Numbered.{items_of}
use Rattle.ps_hall.proofs.GameLemmas.{kept_pushed, kept_undone, back}
use Rattle.ps_hall.proofs.games.push.Goals as goal

pub returns-in-Err-clause-kept : goal.returns-in-Err-clause-kept
returns-in-Err-clause-kept c = kept_undone c.args.table.now c.requires.kept c.args.game c.append.new.self c.take.new.self c.index_last.new.index c.requires.number c.in_ok-append.ensures.ok c.take.ensures.after c.in-Err.ensures.err

pub returns-in-Err-clause-err : goal.returns-in-Err-clause-err
returns-in-Err-clause-err c =
    ap (λ l. record { started = c.args.table.now.started; list = items_of l }) (back c.args.table.now c.requires.kept c.args.game c.append.new.self c.take.new.self c.in_ok-append.ensures.ok c.take.ensures.after)

pub returns-in-Ok-clause-kept : goal.returns-in-Ok-clause-kept
returns-in-Ok-clause-kept c = kept_pushed c.args.table.now c.requires.kept c.args.game c.append.new.self c.index_last.new.index c.requires.number c.in_ok-append.ensures.ok c.in-Ok.ensures.ok
