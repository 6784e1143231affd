use Rattle.std.proofs.Common.{length}
use Rattle.replay_state.proofs.print.+push_shown_rest.Given as goal

abbrev pub decreases-push_shown_rest : goal.decreases-push_shown_rest
decreases-push_shown_rest l = length l.lines.now
