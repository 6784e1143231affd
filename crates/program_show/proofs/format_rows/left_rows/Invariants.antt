use Rattle.std.proofs.Common.{◌≡◌, ◌++◌, drop}
use Rattle.program_show.specs.FormatRows.{left_rows}
use Rattle.program_show.proofs.format_rows.left_rows.Given as goal

abbrev pub invariant-loop-index : goal.invariant-loop-index
invariant-loop-index l =
    l.rows.items ++ left_rows l.dex.moves l.banned_s l.banned_m l.index (drop l.index l.species)
    ≡ left_rows l.dex.moves l.banned_s l.banned_m 0 l.species
