use Rattle.std.proofs.Common.{ℕ, ◌<◌, ◌≤◌}
use Rattle.ps_mon.specs.Reading.{slot_of}
use Rattle.rules_start.proofs.member.have_pp.Given as goal

abbrev pub invariant-loop-index : goal.invariant-loop-index
invariant-loop-index l = (j : ℕ) → j < l.index → 1 ≤ (slot_of l.member j).pp
