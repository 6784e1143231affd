use Rattle.ps_laws.proofs.FirstLemmas.{order_may_differ, order_is_unseen}
use Rattle.ps_laws.proofs.secret.law_order.Goals as goal

pub returns-clause-player : goal.returns-clause-player
returns-clause-player c = order_may_differ c.args.conn

pub returns-clause-spectator : goal.returns-clause-spectator
returns-clause-spectator c = order_is_unseen c.args.conn
