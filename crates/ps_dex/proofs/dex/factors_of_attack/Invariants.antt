use Rattle.std.proofs.Common.{◌≡◌, length, take}
use Rattle.ps_dex.specs.Lookups.{factor_of}
use Rattle.ps_dex.specs.Figures.{listed}
use Rattle.ps_dex.proofs.dex.factors_of_attack.Given as goal

abbrev pub invariant-loop-defend : goal.invariant-loop-defend
invariant-loop-defend l = record {
  count : length l.factors ≡ 32;
  so_far : take l.defend l.factors ≡ listed (factor_of l.items l.attack) l.defend;
}
