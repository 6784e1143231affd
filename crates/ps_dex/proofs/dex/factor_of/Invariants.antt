use Rattle.std.proofs.Common.{◌≡◌, drop}
use Rattle.ps_dex.specs.Lookups.{factor_of}
use Rattle.ps_dex.proofs.dex.factor_of.Given as goal

abbrev pub invariant-loop-item : goal.invariant-loop-item
invariant-loop-item l = factor_of (drop l.item-index l.items) l.attack l.defend ≡ factor_of l.items l.attack l.defend
