use Rattle.std.proofs.Common.{◌≡◌, map, take}
use Rattle.ps_hall.proofs.coming.all_asked.Given as goal

abbrev pub invariant-loop-asked : goal.invariant-loop-asked
invariant-loop-asked l = map (λ x. x.now) l.found.items ≡ take l.asked-index l.list
