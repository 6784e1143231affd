use Rattle.std.proofs.Common.{refl}
use Rattle.ps_mailbox.proofs.Steps.{pushes}
use Rattle.ps_mailbox.proofs.mailbox.Mailbox.post.Goals as goal

pub push_as-requires-clause-rule : goal.push_as-requires-clause-rule
push_as-requires-clause-rule g c n = pushes n _ _ _ _ _ _ c.ticket.invariant.2 refl
