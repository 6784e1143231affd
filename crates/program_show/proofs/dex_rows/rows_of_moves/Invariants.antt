use Rattle.std.proofs.Common.{◌≡◌, map, take}
use Rattle.program_show.specs.DexRows.{move_row}
use Rattle.program_show.proofs.dex_rows.rows_of_moves.Given as goal

abbrev pub invariant-loop-item : goal.invariant-loop-item
invariant-loop-item l = l.rows.items ≡ map (move_row l.types) (take l.item-index l.moves)
