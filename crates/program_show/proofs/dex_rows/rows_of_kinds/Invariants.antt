use Rattle.std.proofs.Common.{◌≡◌, map, take}
use Rattle.program_show.specs.DexRows.{kind_row}
use Rattle.program_show.proofs.dex_rows.rows_of_kinds.Given as goal

abbrev pub invariant-loop-word : goal.invariant-loop-word
invariant-loop-word l = l.rows.items ≡ map (λ w. kind_row l.moves w.now) (take l.word-index l.words)
