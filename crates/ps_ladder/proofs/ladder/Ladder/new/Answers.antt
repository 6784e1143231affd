use Rattle.std.proofs.Common.{sym, subst}
use Rattle.ps_ladder.specs.Ratings.{Ratings, IsSound}
use Rattle.ps_ladder.proofs.SumLemmas.{sound_new}
use Rattle.ps_ladder.proofs.ladder.Ladder.new.Goals as goal

pub invariant_of-result : goal.invariant_of-result
invariant_of-result c = subst (λ (m : Ratings). IsSound (record { count = 0; ratings = m })) (sym c.new.ensures) sound_new
