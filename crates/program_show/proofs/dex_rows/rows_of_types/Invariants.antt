use Rattle.std.proofs.Common.{◌≡◌, map, take}
use Rattle.program_show.specs.DexRows.{type_row}
use Rattle.program_show.proofs.dex_rows.rows_of_types.Given as goal

abbrev pub invariant-loop-item : goal.invariant-loop-item
invariant-loop-item l = l.rows.items ≡ map type_row (take l.item-index l.types)
