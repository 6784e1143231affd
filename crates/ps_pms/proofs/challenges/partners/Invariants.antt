use Rattle.std.proofs.Common.{◌≡◌, [], drop}
use Rattle.ps_pms.specs.Lookups.{partners_of}
use Rattle.ps_pms.proofs.challenges.partners.Given as goal

abbrev pub invariant-loop-asked : goal.invariant-loop-asked
invariant-loop-asked l = partners_of l.user l.found.items (drop l.asked-index l.list) ≡ partners_of l.user [] l.list
