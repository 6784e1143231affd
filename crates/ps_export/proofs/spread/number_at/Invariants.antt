use Rattle.std.proofs.Common.{◌≡◌, drop}
use Rattle.ps_export.specs.Spreads.{number_at}
use Rattle.ps_export.proofs.spread.number_at.Given as goal

abbrev pub invariant-loop-pair : goal.invariant-loop-pair
invariant-loop-pair l = number_at l.stat l.silent (drop l.pair-index l.pairs) ≡ number_at l.stat l.silent l.pairs
