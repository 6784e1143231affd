use Rattle.std.proofs.Common.{◌≡◌, map, take}
use Rattle.program_show.specs.DexRows.{species_row}
use Rattle.program_show.proofs.dex_rows.rows_of_species.Given as goal

abbrev pub invariant-loop-item : goal.invariant-loop-item
invariant-loop-item l = l.rows.items ≡ map (species_row l.dex.types l.dex.moves) (take l.item-index l.species)
