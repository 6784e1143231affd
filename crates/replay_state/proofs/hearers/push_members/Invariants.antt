use Rattle.std.proofs.Common.{◌≡◌, ◌++◌, drop, map}
use Rattle.ps_room.specs.Logs.{conn_of}
use Rattle.replay_state.proofs.hearers.push_members.Given as goal

abbrev pub invariant-loop-member : goal.invariant-loop-member
invariant-loop-member l = l.conns.items ++ map conn_of (drop l.member-index l.members) ≡ l.fn.conns.items ++ map conn_of l.members
