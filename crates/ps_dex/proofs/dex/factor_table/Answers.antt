use Rattle.std.proofs.Common.{◌≡◌, ◌∙◌, arith}
use Rattle.std.proofs.lemmas.List.{length-set}
use Rattle.ps_dex.specs.Figures.{factors_of_attack}
use Rattle.ps_dex.proofs.FigureLemmas.{listed_more, listed_all}
use Rattle.ps_dex.proofs.dex.factor_table.Goals as goal

pub loop-attack-preserved : goal.loop-attack-preserved
loop-attack-preserved c = record {
  count = length-set c.loop-attack.factors c.loop-attack.attack c.factors_of_attack.result ∙ c.loop-attack.invariant.count;
  so_far = listed_more (factors_of_attack c.args.items.now) c.loop-attack.factors c.loop-attack.attack c.factors_of_attack.result (omega (arith, c.loop-attack.invariant.count)) c.factors_of_attack.ensures c.loop-attack.invariant.so_far;
}
