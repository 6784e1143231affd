use Rattle.std.proofs.Common.{ℕ, List, Option}
use Rattle.ps_outside.specs.Links.{Talk, LinkCounts}
use Rattle.ps_serve.specs.Acts.{Act}
use Rattle.ps_serve.specs.Sendings.{Sending}
use Rattle.ps_serve.specs.Steps.{Hours, Stands}
use Rattle.ps_serve.specs.Rests.{IsSitting, GoesOn}
use Rattle.ps_serve.proofs.session.Sitting.sit.Given as goal

abbrev pub invariant-loop : goal.invariant-loop
invariant-loop g l =
    (goal.iterator-loop g).can_next l.iterator' × (goal.iterator-loop g).is_finite l.iterator'
    × IsSitting l.hub l.self.session l.self.passes
    × ((talk0 : Option Talk) (counts0 : LinkCounts) (hours0 : Hours) (conn open_at : ℕ) (acts : List Act) (ss : List Sending)
    → Stands l.hub conn open_at acts ss l.initial.self.session l.initial.self.passes talk0 (g.L.Link.talk l.initial.link) counts0 (g.L.Link.counts l.initial.link) hours0 (g.C.Clock.hours l.initial.clock)
    → GoesOn l.hub conn open_at l.self.session l.self.passes talk0 (g.L.Link.talk l.link) counts0 (g.L.Link.counts l.link) hours0 (g.C.Clock.hours l.clock))
