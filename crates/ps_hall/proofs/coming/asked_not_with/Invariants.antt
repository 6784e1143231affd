use Rattle.std.proofs.Common.{◌≡◌, not, map, take, filter}
use Rattle.ps_pms.specs.Lookups.{is_with}
use Rattle.ps_hall.proofs.coming.asked_not_with.Given as goal

abbrev pub invariant-loop-asked : goal.invariant-loop-asked
invariant-loop-asked l = map (λ x. x.now) l.found.items ≡ filter (λ a. not (is_with l.user a)) (take l.asked-index l.list)
