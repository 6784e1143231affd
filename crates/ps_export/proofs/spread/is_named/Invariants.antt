use Rattle.std.proofs.Common.{◌≡◌, drop}
use Rattle.ps_export.specs.Spreads.{is_named}
use Rattle.ps_export.proofs.spread.is_named.Given as goal

abbrev pub invariant-loop-pair : goal.invariant-loop-pair
invariant-loop-pair l = is_named l.stat (drop l.pair-index l.pairs) ≡ is_named l.stat l.pairs
