use Rattle.std.proofs.Common.{◌≡◌, ◌+◌, drop}
use Rattle.ps_export.specs.Written.{first_unwritable}
use Rattle.ps_export.proofs.writable.first_unwritable.Given as goal

abbrev pub invariant-loop-set : goal.invariant-loop-set
invariant-loop-set l = (l.number ≡ l.set-index + 1) × (first_unwritable l.number (drop l.set-index l.sets) ≡ first_unwritable 1 l.sets)
