use Rattle.std.proofs.Common.{arith}
use Rattle.std.proofs.lemmas.List.{length-map}
use Rattle.ps_mon.specs.Facts.{figures}
use Rattle.ps_dex.specs.Types.{is_special, is_contact}
use Rattle.ps_dex.proofs.TableLemmas.{factor_fits, numbers_fit}
use Rattle.ps_dex.proofs.FigureLemmas.{table_factor}
use Rattle.ps_dex.proofs.dex.Dex.facts.Goals as goal

pub returns-clause-fair : goal.returns-clause-fair
unfolding figures
returns-clause-fair c =
    let fit = c.self.invariant.0 in
    record {
      few = rw (c.as_slice.ensures.value, c.self.invariant.1, length-map) fit.few_moves;
      moves = rw (c.as_slice.ensures.value, c.self.invariant.1) (numbers_fit c.self.inside.tables.moves fit.moves);
      factors = λ attack defend la ld. rw (c.self.invariant.2, table_factor c.self.inside.tables.factors attack defend la ld) (factor_fits c.self.inside.tables.factors fit.factors attack defend);
      struggle = (is_special c.self.inside.tables.types 0, is_contact c.self.inside.tables.types 0, c.self.invariant.3);
    }
