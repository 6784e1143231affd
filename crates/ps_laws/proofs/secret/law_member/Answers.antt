use Rattle.ps_laws.proofs.SwapLemmas.{members_may_differ}
use Rattle.ps_laws.proofs.secret.law_member.Goals as goal

pub returns : goal.returns
returns c = members_may_differ c.args.conn
