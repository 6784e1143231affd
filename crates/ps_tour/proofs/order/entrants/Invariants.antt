use Rattle.std.proofs.Common.{◌≡◌, length}
use Rattle.ps_tour.specs.Brackets.{entrants}
use Rattle.ps_tour.proofs.order.entrants.Given as goal

abbrev pub invariant-loop-i : goal.invariant-loop-i
invariant-loop-i l = (l.all.items ≡ entrants l.i) × (length l.all.items ≡ l.i)
