use Rattle.std.proofs.Common.{◌≡◌}
use Rattle.server_accept.specs.Servers.{given_by}
use Rattle.server_accept.proofs.serve.let_in.Given as goal

-- each link so far was handed out, and the door didn't fail
abbrev pub invariant-loop-begun : goal.invariant-loop-begun
invariant-loop-begun g l = (g.D.Door.given l.door ≡ given_by l.begun (g.D.Door.given l.initial.door)) × (g.D.Door.faults l.door ≡ g.D.Door.faults l.initial.door)
