use Rattle.std.proofs.Common.{ap, ◌∙◌}
use Rattle.std.specs.FinMap.{get}
use Rattle.ps_base.specs.Ids.{id_of}
use Rattle.ps_users.specs.Seats.{Seated}
use Rattle.ps_users.proofs.SeatLemmas.{named_agrees}
use Rattle.ps_users.proofs.seating.Seating.name.Goals as goal

pub invariant_of-self-2 : goal.invariant_of-self-2
invariant_of-self-2 c =
    let nameless = ap (λ (s : Seated). get s.seats c.args.conn) c.self.view_is ∙ c.requires.open in
    let free = ap (λ (s : Seated). get s.online (id_of c.args.badge.name)) c.self.view_is ∙ c.requires.free in
    rw (c.in_ok-give_badge.ensures.seats, c.in_ok-give_badge.ensures.online) (named_agrees c.self.inside.seats c.self.inside.online c.args.conn c.args.badge nameless free c.self.invariant)
