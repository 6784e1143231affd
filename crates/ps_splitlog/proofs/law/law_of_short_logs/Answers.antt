use Rattle.ps_splitlog.proofs.ShortLemmas.{are_short}
use Rattle.ps_splitlog.proofs.law.law_of_short_logs.Goals as goal

pub returns : goal.returns
returns c = are_short
