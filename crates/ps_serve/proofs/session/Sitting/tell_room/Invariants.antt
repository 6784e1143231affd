use Rattle.std.proofs.Common.{◌≡◌, length}
use Rattle.ps_hub.specs.Passes.{AreOf}
use Rattle.ps_serve.specs.Tellings.{SendsRoom}
use Rattle.ps_serve.proofs.session.Sitting.tell_room.Given as goal

abbrev pub invariant-loop : goal.invariant-loop
invariant-loop g l =
    (goal.iterator-loop g).can_next l.iterator' × (goal.iterator-loop g).is_finite l.iterator'
    × AreOf l.hub l.self.passes × (l.self.session ≡ l.initial.self.session) × (l.self.passes.badge ≡ l.initial.self.passes.badge)
    × (length l.self.passes.rooms.items ≡ length l.initial.self.passes.rooms.items)
    × (g.L.Link.counts l.link ≡ g.L.Link.counts l.initial.link)
    × SendsRoom l.hub l.place l.initial.self.passes l.self.passes (g.L.Link.talk l.initial.link) (g.L.Link.talk l.link)
