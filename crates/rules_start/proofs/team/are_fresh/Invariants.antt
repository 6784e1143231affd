use Rattle.std.proofs.Common.{ℕ, ◌<◌}
use Rattle.std.specs.Prelude.{slice_index_or}
use Rattle.ps_mon.specs.Reading.{no_member}
use Rattle.ps_mon.specs.Teams.{IsFreshMember}
use Rattle.rules_start.proofs.team.are_fresh.Given as goal

abbrev pub invariant-loop-index : goal.invariant-loop-index
invariant-loop-index l = (k : ℕ) → k < l.index → IsFreshMember (slice_index_or l.team.members k no_member)
