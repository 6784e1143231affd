use Rattle.ps_users.proofs.SeatLemmas.{nobody}
use Rattle.ps_users.proofs.seating.Seating.new.Goals as goal

pub invariant_of-result : goal.invariant_of-result
invariant_of-result c = rw (c.new.ensures, c.new-2.ensures) nobody
