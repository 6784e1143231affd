use Rattle.std.proofs.Common.{◌≡◌, map, take}
use Rattle.program_show.specs.DexRows.{alias_row}
use Rattle.program_show.proofs.dex_rows.rows_of_aliases.Given as goal

abbrev pub invariant-loop-alias : goal.invariant-loop-alias
invariant-loop-alias l = l.rows.items ≡ map (alias_row l.dex) (take l.alias-index l.aliases)
