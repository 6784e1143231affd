use Rattle.std.proofs.Common.{rules}
use Rattle.ps_mailbox.proofs.Steps.{pops, tells_all}
use Rattle.ps_mailbox.proofs.mailbox.Mailbox.take.Goals as goal

pub pop_as-requires-clause-rule : goal.pop_as-requires-clause-rule
pop_as-requires-clause-rule g c = (pops _ _ c.drain.invariant.2, tells_all _ _ c.drain.invariant.2)

pub returns-in-Some-clause-some : goal.returns-in-Some-clause-some
returns-in-Some-clause-some g c = (c.in-Some.numbered.number, search rules)
