use Rattle.std.proofs.Common.{◌≡◌, ◌++◌, take}
use Rattle.ps_keep.proofs.mem_keeper.SureKeeperKeeper.note_all.Given as goal

abbrev pub invariant-loop-note : goal.invariant-loop-note
invariant-loop-note l = (l.self.notes ≡ l.fn.self.notes ++ take l.note-index l.more) × (l.self.counts ≡ l.fn.self.counts)
