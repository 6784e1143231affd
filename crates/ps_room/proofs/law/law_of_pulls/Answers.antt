use Rattle.ps_room.proofs.PullLemmas.{pulls_all, pulls_view}
use Rattle.ps_room.proofs.law.law_of_pulls.Goals as goal

pub returns-clause-all : goal.returns-clause-all
returns-clause-all c = pulls_all

pub returns-clause-view : goal.returns-clause-view
returns-clause-view c = pulls_view
