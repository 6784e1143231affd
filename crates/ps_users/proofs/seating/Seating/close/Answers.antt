use Rattle.std.proofs.Common.{sym}
use Rattle.ps_users.proofs.SeatLemmas.{closed_agrees}
use Rattle.ps_users.proofs.seating.Seating.close.Goals as goal

pub invariant_of-self : goal.invariant_of-self
invariant_of-self c = rw (c.take_badge-badge.ensures.after, c.leave.ensures) (closed_agrees c.self.inside.seats c.self.inside.online c.args.conn c.take_badge-badge.result (sym c.take_badge-badge.ensures.value) c.self.invariant)
