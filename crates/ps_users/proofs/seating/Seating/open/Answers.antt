use Rattle.std.proofs.Common.{refl}
use Rattle.std.specs.FinMap.{get}
use Rattle.ps_users.proofs.SeatLemmas.{opened_agrees}
use Rattle.ps_users.proofs.seating.Seating.open.Goals as goal

pub invariant_of-self-2 : goal.invariant_of-self-2
invariant_of-self-2 c = rw c.in_ok-open_seat.ensures.ok (opened_agrees c.self.inside.seats c.self.inside.online c.args.conn (get c.self.inside.seats c.args.conn) refl c.self.invariant)
