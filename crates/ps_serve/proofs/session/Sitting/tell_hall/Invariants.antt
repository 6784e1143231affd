use Rattle.std.proofs.Common.{◌≡◌}
use Rattle.ps_hub.specs.Passes.{AreOf}
use Rattle.ps_serve.specs.Tellings.{SendsHall}
use Rattle.ps_serve.proofs.session.Sitting.tell_hall.Given as goal

abbrev pub invariant-loop : goal.invariant-loop
invariant-loop g l =
    (goal.iterator-loop g).can_next l.iterator' × (goal.iterator-loop g).is_finite l.iterator'
    × AreOf l.hub l.self.passes × (l.self.session ≡ l.initial.self.session) × (l.self.passes.badge ≡ l.initial.self.passes.badge)
    × (g.L.Link.counts l.link ≡ g.L.Link.counts l.initial.link)
    × SendsHall l.hub l.initial.self.passes l.self.passes (g.L.Link.talk l.initial.link) (g.L.Link.talk l.link)
