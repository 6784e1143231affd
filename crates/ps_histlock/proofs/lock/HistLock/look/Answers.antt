use Rattle.std.proofs.Common.{[], ap}
use Rattle.ps_histlock.specs.Homes.{home_origin, HomeStands}
use Rattle.ps_histlock.proofs.Steps.{looks}
use Rattle.ps_histlock.proofs.lock.HistLock.look.Goals as goal

pub glance-requires-clause-allowed : goal.glance-requires-clause-allowed
glance-requires-clause-allowed g c = λ id. looks (home_origin g.K.Kept.origin) (HomeStands g.K.Kept.stands g.K.Kept.signer) g.K.Kept.signer c.args.self.now.1 1 id (c.args.pass.now.1, [])

pub glance-requires-clause-rest : goal.glance-requires-clause-rest
glance-requires-clause-rest g c = λ n v out told. (ap (λ m. m.0) told.0, ap (λ m. m.1) told.0, told.1)
