use Rattle.std.proofs.Common.{◌≡◌, drop}
use Rattle.ps_group.specs.Can.{granted_by}
use Rattle.ps_group.proofs.can.granted_by.Given as goal

abbrev pub invariant-loop-group : goal.invariant-loop-group
invariant-loop-group l = granted_by l.perm l.symbol (drop l.group-index l.groups) ≡ granted_by l.perm l.fn.symbol l.groups
