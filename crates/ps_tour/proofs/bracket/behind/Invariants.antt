use Rattle.std.proofs.Common.{◌≡◌, take, drop}
use Rattle.ps_tour.proofs.bracket.behind.Given as goal

abbrev pub invariant-loop-entrant : goal.invariant-loop-entrant
invariant-loop-entrant l = l.rest.items ≡ take l.entrant-index (drop l.fn.place l.fn.entered)
