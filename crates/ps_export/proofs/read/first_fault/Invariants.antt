use Rattle.std.proofs.Common.{◌≡◌}
use Rattle.ps_export.proofs.ReadLemmas.{Walks}
use Rattle.ps_export.proofs.read.first_fault.Given as goal

abbrev pub invariant-loop-line : goal.invariant-loop-line
invariant-loop-line l = (l.number ≡ l.line-index) × Walks l.text l.line-index l.sheet
