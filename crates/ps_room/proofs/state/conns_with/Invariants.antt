use Rattle.std.proofs.Common.{◌≡◌, map, take}
use Rattle.ps_room.specs.Logs.{conns_with, changed_conn}
use Rattle.ps_room.proofs.state.conns_with.Given as goal

abbrev pub invariant-loop-member : goal.invariant-loop-member
invariant-loop-member l = map changed_conn l.changes.items ≡ conns_with l.id (take l.member-index l.members)
