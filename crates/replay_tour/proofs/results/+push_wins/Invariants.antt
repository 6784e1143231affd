use Rattle.std.proofs.Common.{length}
use Rattle.replay_tour.proofs.results.+push_wins.Given as goal

abbrev pub decreases-push_wins : goal.decreases-push_wins
decreases-push_wins l = length l.wins.now
