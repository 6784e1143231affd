use Rattle.std.proofs.Common.{arith}
use Rattle.ps_histlock.specs.Homes.{home_origin, HomeStands}
use Rattle.ps_histlock.proofs.Steps.{arrives}
use Rattle.ps_histlock.proofs.lock.HistLock.fresh.Goals as goal

pub load_new_seat-seat-requires : goal.load_new_seat-seat-requires
load_new_seat-seat-requires g c =
    let words = c.self.invariant.0 in (omega arith, arrives (home_origin g.K.Kept.origin) (HomeStands g.K.Kept.stands g.K.Kept.signer) g.K.Kept.signer _ _)
