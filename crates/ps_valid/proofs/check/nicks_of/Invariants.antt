use Rattle.std.proofs.Common.{◌≡◌, map, take}
use Rattle.ps_valid.specs.TeamRows.{nick_of}
use Rattle.ps_valid.proofs.check.nicks_of.Given as goal

abbrev pub invariant-loop-set : goal.invariant-loop-set
invariant-loop-set l = l.nicks.items ≡ map nick_of (take l.set-index l.sets)
