use Rattle.std.proofs.Common.{◌≡◌}
use Rattle.program_show.specs.DexRows.{factors_to}
use Rattle.program_show.proofs.dex_rows.factors_of.Given as goal

abbrev pub invariant-loop-defend : goal.invariant-loop-defend
invariant-loop-defend l = l.texts.items ≡ factors_to l.dex.types l.dex.factors l.attack l.defend
