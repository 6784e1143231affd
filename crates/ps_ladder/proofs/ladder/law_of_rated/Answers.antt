use Rattle.ps_ladder.proofs.MapLemmas.{rated_of}
use Rattle.ps_ladder.proofs.ladder.law_of_rated.Goals as goal

pub returns : goal.returns
returns c = rated_of
