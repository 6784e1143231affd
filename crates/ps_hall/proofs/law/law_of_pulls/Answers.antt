use Rattle.ps_hall.proofs.PullLemmas.{pulls_view}
use Rattle.ps_hall.proofs.law.law_of_pulls.Goals as goal

pub returns : goal.returns
returns c = pulls_view
