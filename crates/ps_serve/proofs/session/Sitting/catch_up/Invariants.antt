use Rattle.std.proofs.Common.{◌≡◌, length}
use Rattle.ps_hub.specs.Passes.{AreOf}
use Rattle.ps_serve.proofs.TellingRooms.{HaveTold}
use Rattle.ps_serve.proofs.session.Sitting.catch_up.Given as goal

abbrev pub invariant-loop-place : goal.invariant-loop-place
invariant-loop-place g l =
    AreOf l.hub l.self.passes
    × (l.self.session ≡ l.fn.self.session)
    × (l.self.passes.badge ≡ l.fn.self.passes.badge)
    × (length l.self.passes.rooms.items ≡ length l.initial.self.passes.rooms.items)
    × (g.L.Link.counts l.link ≡ g.L.Link.counts l.fn.link)
    × HaveTold l.hub l.fn.self.session l.shown l.place l.fn.self.passes l.self.passes (g.L.Link.talk l.fn.link) (g.L.Link.talk l.link)
