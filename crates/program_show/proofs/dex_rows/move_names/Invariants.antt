use Rattle.std.proofs.Common.{◌≡◌, map, take}
use Rattle.ps_dex.specs.Lookups.{name_of_move}
use Rattle.program_show.proofs.dex_rows.move_names.Given as goal

abbrev pub invariant-loop-number : goal.invariant-loop-number
invariant-loop-number l = l.names.items ≡ map (λ n. name_of_move n l.dex.moves) (take l.number-index l.numbers)
