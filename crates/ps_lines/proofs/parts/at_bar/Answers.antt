use Rattle.std.proofs.Common.{lit<}
use Rattle.ps_lines.proofs.PartLemmas.{split_first}
use Rattle.ps_lines.proofs.parts.at_bar.Goals as goal

pub returns : goal.returns
returns c = split_first 124 c.args.text.now c.split_once.result c.split_once.ensures.cases (lit< tt)
