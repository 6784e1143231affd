use Rattle.std.proofs.Common.{length}
use Rattle.replay_state.proofs.places.+push_quits.Given as goal

abbrev pub decreases-push_quits : goal.decreases-push_quits
decreases-push_quits l = length l.rooms.now
