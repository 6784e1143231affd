use Rattle.ps_dex.proofs.FigureLemmas.{table_factor}
use Rattle.ps_dex.proofs.dex.Dex.factor.Goals as goal

pub returns : goal.returns
returns c = rw (c.from.ensures, c.from-2.ensures, c.self.invariant.2, ← c.self.view_is) (table_factor c.self.inside.tables.factors c.args.attack c.args.defend c.requires.attack c.requires.defend)
