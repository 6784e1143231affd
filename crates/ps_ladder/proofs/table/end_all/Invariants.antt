use Rattle.std.proofs.Common.{◌≡◌, length}
use Rattle.hall_index.specs.Numbered.{items_of}
use Rattle.hall_index.specs.IdIndices.{numbers_at}
use Rattle.ps_ladder.specs.Waiting.{cancelled}
use Rattle.ps_ladder.specs.Tables.{AreKept}
use Rattle.ps_ladder.proofs.table.end_all.Given as goal

abbrev pub invariant-loop-number : goal.invariant-loop-number
invariant-loop-number l = AreKept l.table × (cancelled (items_of l.table.waiting) l.user ≡ cancelled (items_of l.fn.table.waiting) l.user)

abbrev pub decreases-loop-number : goal.decreases-loop-number
decreases-loop-number l = length (numbers_at l.table.users l.user)
