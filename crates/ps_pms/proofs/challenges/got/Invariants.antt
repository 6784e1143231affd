use Rattle.std.proofs.Common.{◌≡◌, filter, take}
use Rattle.ps_pms.specs.Lookups.{is_to}
use Rattle.ps_pms.proofs.challenges.got.Given as goal

abbrev pub invariant-loop-asked : goal.invariant-loop-asked
invariant-loop-asked l = l.found.items ≡ filter (is_to l.to) (take l.asked-index l.list)
