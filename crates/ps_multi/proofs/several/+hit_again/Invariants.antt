use Rattle.ps_multi.proofs.several.+hit_again.Given as goal

abbrev pub decreases-hit_again : goal.decreases-hit_again
decreases-hit_again l = l.left
