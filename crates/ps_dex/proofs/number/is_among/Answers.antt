use Rattle.std.proofs.Common.{◌∙◌}
use Rattle.ps_dex.proofs.NewLemmas.{among}
use Rattle.ps_dex.proofs.number.is_among.Goals as goal

pub returns : goal.returns
returns c = c.contains.ensures ∙ among c.args.number c.args.numbers.now.keys
