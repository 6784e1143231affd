use Rattle.std.proofs.Common.{ℕ, ◌<◌, ◌≤◌}
use Rattle.std.specs.Prelude.{slice_index_or}
use Rattle.ps_mon.specs.Reading.{no_slot}
use Rattle.rules_start.proofs.member.are_within.Given as goal

abbrev pub invariant-loop-index : goal.invariant-loop-index
invariant-loop-index l = (j : ℕ) → j < l.index → (slice_index_or l.slots j no_slot).pp ≤ (slice_index_or l.slots j no_slot).max_pp
