use Rattle.std.proofs.Common.{length}
use Rattle.ps_users.proofs.SameLemmas.{IsCompared}
use Rattle.ps_users.proofs.assertion.differing.Given as goal

abbrev pub invariant-loop-a : goal.invariant-loop-a
invariant-loop-a l = IsCompared l.one l.other (length l.yielded) l.bits
