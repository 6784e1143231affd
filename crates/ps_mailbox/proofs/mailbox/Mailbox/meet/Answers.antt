use Rattle.std.proofs.Common.{ap, sym, subst, ◌∙◌, ℕ, List}
use mathlib.Core.List.{IsPrefix}
use Rattle.ps_mailbox.specs.declared.view.Numbered.{Numbered}
use Rattle.ps_mailbox.specs.declared.view.View.{View}
use Rattle.ps_mailbox.specs.Posts.{posts_of}
use Rattle.ps_mailbox.proofs.Steps.{meets, tells, tells_of}
use Rattle.ps_mailbox.proofs.mailbox.Mailbox.meet.Goals as goal

pub absorb-requires-clause-rule : goal.absorb-requires-clause-rule
absorb-requires-clause-rule g c = meets _ _ _ _ _ _ _ c.drain.invariant.2 c.ticket.invariant.2

pub len_as-requires-clause-rule : goal.len_as-requires-clause-rule
len_as-requires-clause-rule g c = tells _ c.drain.inside.pass.me.view.client c.ticket.inside.pass.me.view.client _ c.drain.invariant.2 c.absorb.ensures.rule

pub returns-clause-prefix : goal.returns-clause-prefix
returns-clause-prefix g c =
    let T = g.row.T.Denot in
    let V = View T in
    let number = ap (λ (v : V). v.number) c.ticket.invariant.2.0 ∙ ap (λ t. t.number) c.ticket.view_is in
    let taken = sym (ap (λ (v : V). v.taken) c.len_as.ensures.queue.2) in
    let posted = ap (λ t. t.posted) c.ticket.view_is in
    subst (λ (z : ℕ × List (Numbered T) × List T). IsPrefix (posts_of z.0 z.1) z.2) (λ k. (number k, taken k, posted k))
    (tells_of c.drain.inside.pass.me.view.client c.ticket.inside.pass.me.view.client c.absorb.new.pass.me.view.client c.absorb.ensures.rule c.len_as.ensures.rule.2)
