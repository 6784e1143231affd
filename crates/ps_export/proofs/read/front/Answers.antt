use Rattle.std.proofs.lemmas.List.{length-take-le}
use Rattle.ps_export.proofs.read.front.Goals as goal

pub returns-clause-count : goal.returns-clause-count
returns-clause-count c = length-take-le c.args.most c.args.text.now c.requires
