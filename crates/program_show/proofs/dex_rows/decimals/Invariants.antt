use Rattle.std.proofs.Common.{◌≡◌, map, take, decimal}
use Rattle.program_show.proofs.dex_rows.decimals.Given as goal

abbrev pub invariant-loop-number : goal.invariant-loop-number
invariant-loop-number l = l.texts.items ≡ map decimal (take l.number-index l.numbers)
