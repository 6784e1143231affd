use Rattle.std.proofs.Common.{◌≡◌, ◌++◌, drop}
use Rattle.program_show.specs.FormatRows.{left_moves}
use Rattle.program_show.proofs.format_rows.left_moves.Given as goal

abbrev pub invariant-loop-number : goal.invariant-loop-number
invariant-loop-number l =
    l.names.items ++ left_moves l.dex.moves l.banned (drop l.number-index l.numbers) ≡ left_moves l.dex.moves l.banned l.numbers
