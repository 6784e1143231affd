use Rattle.std.proofs.Common.{◌≡◌, map, take}
use Rattle.program_show.specs.DexRows.{type_name}
use Rattle.program_show.proofs.dex_rows.type_names.Given as goal

abbrev pub invariant-loop-number : goal.invariant-loop-number
invariant-loop-number l = l.names.items ≡ map (type_name l.types) (take l.number-index l.numbers)
