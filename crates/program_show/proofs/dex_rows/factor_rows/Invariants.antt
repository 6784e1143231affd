use Rattle.std.proofs.Common.{◌≡◌}
use Rattle.program_show.specs.DexRows.{factor_rows}
use Rattle.program_show.proofs.dex_rows.factor_rows.Given as goal

abbrev pub invariant-loop-attack : goal.invariant-loop-attack
invariant-loop-attack l = l.rows.items ≡ factor_rows l.dex.types l.dex.factors l.attack
