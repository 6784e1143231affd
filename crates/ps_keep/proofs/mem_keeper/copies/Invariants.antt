use Rattle.std.proofs.Common.{◌≡◌, ◌++◌, drop}
use Rattle.ps_keep.proofs.mem_keeper.copies.Given as goal

abbrev pub invariant-loop-note : goal.invariant-loop-note
invariant-loop-note l = l.all.items ++ drop l.note-index l.notes ≡ l.notes
