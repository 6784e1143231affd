use Rattle.std.proofs.Common.{◌≡◌}
use Rattle.ps_serve.proofs.send.ring_places.Given as goal

abbrev pub invariant-loop-pass : goal.invariant-loop-pass
invariant-loop-pass g l = (g.L.Link.talk l.link ≡ g.L.Link.talk l.fn.link) × (g.L.Link.counts l.link ≡ g.L.Link.counts l.fn.link)
