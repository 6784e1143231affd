use Rattle.ps_tour.proofs.order.+shuffle.Given as goal

abbrev pub decreases-shuffle : goal.decreases-shuffle
decreases-shuffle l = l.last
