use Rattle.std.proofs.Common.{length}
use Rattle.replay_state.proofs.print.+push_more_notices.Given as goal

abbrev pub decreases-push_more_notices : goal.decreases-push_more_notices
decreases-push_more_notices l = length l.notices.now
