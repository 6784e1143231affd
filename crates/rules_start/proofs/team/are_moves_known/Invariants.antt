use Rattle.std.proofs.Common.{ℕ, ◌<◌}
use Rattle.std.specs.Prelude.{slice_index_or}
use Rattle.ps_mon.specs.Reading.{no_member}
use Rattle.ps_mon.specs.Known.{AreOwnKnown}
use Rattle.rules_start.proofs.team.are_moves_known.Given as goal

abbrev pub invariant-loop-index : goal.invariant-loop-index
invariant-loop-index l = (k : ℕ) → k < l.index → AreOwnKnown l.moves (slice_index_or l.team.members k no_member)
