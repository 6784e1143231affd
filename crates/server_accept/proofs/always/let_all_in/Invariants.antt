use Rattle.std.proofs.Common.{◌≡◌}
use Rattle.server_accept.proofs.always.let_all_in.Given as goal

-- the door didn't fail so far
abbrev pub invariant-loop-begun : goal.invariant-loop-begun
invariant-loop-begun g l = g.D.Door.faults l.door ≡ g.D.Door.faults l.initial.door
