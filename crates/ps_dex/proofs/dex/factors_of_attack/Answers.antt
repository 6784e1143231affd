use Rattle.std.proofs.Common.{◌≡◌, ◌∙◌, arith}
use Rattle.std.proofs.lemmas.List.{length-set}
use Rattle.ps_dex.specs.Lookups.{factor_of}
use Rattle.ps_dex.proofs.FigureLemmas.{listed_more, listed_all}
use Rattle.ps_dex.proofs.dex.factors_of_attack.Goals as goal

pub loop-defend-preserved : goal.loop-defend-preserved
loop-defend-preserved c = record {
  count = length-set c.loop-defend.factors c.loop-defend.defend c.factor_of.result ∙ c.loop-defend.invariant.count;
  so_far = listed_more (factor_of c.args.items.now c.args.attack) c.loop-defend.factors c.loop-defend.defend c.factor_of.result (omega (arith, c.loop-defend.invariant.count)) c.factor_of.ensures c.loop-defend.invariant.so_far;
}
