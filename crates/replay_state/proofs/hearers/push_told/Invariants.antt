use Rattle.std.proofs.Common.{◌≡◌, ◌++◌, drop, map}
use Rattle.replay_state.specs.Houses.{told_conn}
use Rattle.replay_state.proofs.hearers.push_told.Given as goal

abbrev pub invariant-loop-notice : goal.invariant-loop-notice
invariant-loop-notice l = l.conns.items ++ map told_conn (drop l.notice-index l.notices) ≡ l.fn.conns.items ++ map told_conn l.notices
