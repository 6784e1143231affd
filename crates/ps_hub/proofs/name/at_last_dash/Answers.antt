use Rattle.std.proofs.Common.{lit<}
use Rattle.ps_lines.proofs.PartLemmas.{split_last}
use Rattle.ps_hub.proofs.name.at_last_dash.Goals as goal

pub returns : goal.returns
returns c = split_last 45 c.args.text.now c.rsplit_once.result c.rsplit_once.ensures.cases (lit< tt)
