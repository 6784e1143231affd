use Rattle.ps_rules.proofs.MarkLemmas.{none_met}
use Rattle.ps_rules.proofs.marks.Marks.all_new.Goals as goal

pub returns : goal.returns
returns c = none_met c.new.result 0 c.args.count c.new.ensures.empty
