use Rattle.std.proofs.Common.{◌≡◌, ◌++◌, take, drop, map}
use Rattle.ps_chat.specs.Rooms.{ranked}
use Rattle.ps_chat.proofs.members.set_ranks.Given as goal

abbrev pub invariant-loop-i : goal.invariant-loop-i
invariant-loop-i l = l.members.items ≡ map (ranked l.id l.rank) (take l.i l.fn.members.items) ++ drop l.i l.fn.members.items
