use Rattle.std.proofs.Common.{length}
use Rattle.replay_state.proofs.print.+push_notices.Given as goal

abbrev pub decreases-push_notices : goal.decreases-push_notices
decreases-push_notices l = length l.notices.now
