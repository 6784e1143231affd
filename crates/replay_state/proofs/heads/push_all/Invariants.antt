use Rattle.std.proofs.Common.{◌≡◌, ◌++◌, drop, map}
use Rattle.replay_state.specs.Heads.{head_of}
use Rattle.replay_state.proofs.heads.push_all.Given as goal

abbrev pub invariant-loop-conn : goal.invariant-loop-conn
invariant-loop-conn l = l.list.items ++ map (head_of l.id) (drop l.conn-index l.conns) ≡ l.fn.list.items ++ map (head_of l.id) l.conns
