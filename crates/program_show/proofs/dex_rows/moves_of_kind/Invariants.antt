use Rattle.std.proofs.Common.{◌≡◌, ◌++◌, drop}
use Rattle.program_show.specs.DexRows.{moves_of_kind}
use Rattle.program_show.proofs.dex_rows.moves_of_kind.Given as goal

abbrev pub invariant-loop-item : goal.invariant-loop-item
invariant-loop-item l = l.names.items ++ moves_of_kind (drop l.item-index l.moves) l.word ≡ moves_of_kind l.moves l.word
