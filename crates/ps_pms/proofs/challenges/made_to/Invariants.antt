use Rattle.std.proofs.Common.{◌≡◌, find, drop}
use Rattle.ps_pms.specs.Lookups.{is_of}
use Rattle.ps_pms.proofs.challenges.made_to.Given as goal

abbrev pub invariant-loop-asked : goal.invariant-loop-asked
invariant-loop-asked l = find (is_of l.by l.to) (drop l.asked-index l.list) ≡ find (is_of l.by l.to) l.list
