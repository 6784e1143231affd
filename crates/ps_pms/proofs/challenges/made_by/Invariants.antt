use Rattle.std.proofs.Common.{◌≡◌, find, drop}
use Rattle.ps_pms.specs.Lookups.{is_by}
use Rattle.ps_pms.proofs.challenges.made_by.Given as goal

abbrev pub invariant-loop-asked : goal.invariant-loop-asked
invariant-loop-asked l = find (is_by l.by) (drop l.asked-index l.list) ≡ find (is_by l.by) l.list
