use Rattle.ps_ladder.proofs.SumLemmas.{balanced_of}
use Rattle.ps_ladder.proofs.ladder.law_of_sums.Goals as goal

pub returns : goal.returns
returns c = balanced_of
