use Rattle.ps_laws.proofs.SwapLemmas.{slots_may_differ}
use Rattle.ps_laws.proofs.secret.law_slot.Goals as goal

pub returns : goal.returns
returns c = slots_may_differ c.args.conn
