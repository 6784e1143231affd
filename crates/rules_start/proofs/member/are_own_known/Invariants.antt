use Rattle.std.proofs.Common.{ℕ, ◌<◌}
use Rattle.ps_mon.specs.Reading.{slot_of}
use Rattle.rules_start.proofs.member.are_own_known.Given as goal

abbrev pub invariant-loop-index : goal.invariant-loop-index
invariant-loop-index l = (j : ℕ) → j < l.index → (slot_of l.member j).mv < l.moves
