use Rattle.std.proofs.Common.{◌≡◌, map, take}
use Rattle.ps_export.specs.Written.{block}
use Rattle.ps_export.proofs.write.blocks.Given as goal

abbrev pub invariant-loop-set : goal.invariant-loop-set
invariant-loop-set l = l.blocks.items ≡ map block (take l.set-index l.sets)
