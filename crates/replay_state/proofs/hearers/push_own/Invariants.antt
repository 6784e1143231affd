use Rattle.std.proofs.Common.{◌≡◌, ◌++◌, drop, filter_map}
use Rattle.replay_state.specs.Houses.{own_conn}
use Rattle.replay_state.proofs.hearers.push_own.Given as goal

abbrev pub invariant-loop-line : goal.invariant-loop-line
invariant-loop-line l = l.conns.items ++ filter_map own_conn (drop l.line-index l.lines) ≡ l.fn.conns.items ++ filter_map own_conn l.lines
