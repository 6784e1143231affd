use Rattle.std.proofs.Common.{length}
use Rattle.ps_hub.proofs.LockLemmas.{AreOpeners}
use Rattle.ps_hub.proofs.hub.open_rooms.Given as goal

-- the openers that are left are of locks that stand at their indices
abbrev pub invariant-loop-opener : goal.invariant-loop-opener
invariant-loop-opener l = AreOpeners l.locks l.openers.items

abbrev pub decreases-loop-opener : goal.decreases-loop-opener
decreases-loop-opener l = length l.openers.items
