use Rattle.ps_ladder.proofs.TableLemmas.{kept_ended, kept_gone}
use Rattle.ps_ladder.proofs.table.end_at.Goals as goal

pub returns-in-None-clause-kept : goal.returns-in-None-clause-kept
returns-in-None-clause-kept c = kept_ended c.args.table.now c.requires c.args.number c.take.new.self c.remove.new.self c.as_str.result.now c.take.ensures.after c.remove.ensures

pub returns-in-Some-clause-kept : goal.returns-in-Some-clause-kept
returns-in-Some-clause-kept c =
    kept_gone c.args.table.now c.requires c.args.number c.take.new.self c.remove.new.self c.remove-in-Some.new.self c.as_str.result.now c.as_str-in-Some.result.now
    c.take.ensures.after c.remove.ensures c.remove-in-Some.ensures
