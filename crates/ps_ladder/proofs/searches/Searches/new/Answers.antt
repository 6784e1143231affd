use Rattle.ps_ladder.proofs.TableLemmas.{kept_new}
use Rattle.ps_ladder.proofs.searches.Searches.new.Goals as goal

pub invariant_of-result : goal.invariant_of-result
invariant_of-result c = kept_new c.new.result c.new-2.result c.new-3.result c.new.ensures c.new-2.ensures c.new-3.ensures
