use Rattle.std.proofs.Common.{◌≡◌, length, take}
use Rattle.ps_dex.specs.Figures.{listed, factors_of_attack}
use Rattle.ps_dex.proofs.dex.factor_table.Given as goal

abbrev pub invariant-loop-attack : goal.invariant-loop-attack
invariant-loop-attack l = record {
  count : length l.factors ≡ 32;
  so_far : take l.attack l.factors ≡ listed (factors_of_attack l.items) l.attack;
}
