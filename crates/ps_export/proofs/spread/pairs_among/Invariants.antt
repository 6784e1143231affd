use Rattle.std.proofs.Common.{◌≡◌, map, drop, []}
use Rattle.ps_export.specs.Spreads.{pairs_after}
use Rattle.ps_export.proofs.spread.pairs_among.Given as goal

abbrev pub invariant-loop-part : goal.invariant-loop-part
invariant-loop-part l = pairs_after l.pairs.items (map (λ x. x.now) (drop l.part-index l.parts)) ≡ pairs_after [] (map (λ x. x.now) l.parts)
