use Rattle.std.proofs.Common.{◌==◌, arith, sym, ◌∙◌, Some, ap}
use Rattle.ps_chat.specs.declared.present.Present.{Present}
use Rattle.ps_chat.proofs.FindLemmas.{find_none, find_at_index, index_below}
use Rattle.ps_chat.proofs.members.Members.get.Goals as goal

pub returns-in-None : goal.returns-in-None
returns-in-None c =
    let found = rw c.conn.view_is at c.in-None.ensures.value in
    rw (← c.self.view_is) (sym (find_none (λ p. p.conn == c.args.conn) c.self.inside.list.items (sym (c.self.invariant.0 c.args.conn) ∙ sym found)))

pub returns-in-Some : goal.returns-in-Some
returns-in-Some c =
    let found = rw c.conn.view_is at c.in-Some.ensures.value in
    rw (← c.self.view_is) (ap (λ (m : Present). Some m) c.index.ensures ∙ sym (find_at_index (λ p. p.conn == c.args.conn) c.self.inside.list.items c.in-Some.index.now c.index.result.now (sym (c.self.invariant.0 c.args.conn) ∙ sym found)))

pub index-requires : goal.index-requires
index-requires c =
    let found = rw c.conn.view_is at c.in-Some.ensures.value in
    let below = index_below (λ p. p.conn == c.args.conn) c.self.inside.list.items c.in-Some.index.now (sym (c.self.invariant.0 c.args.conn) ∙ sym found) in
    omega (arith, c.self.inside.list.ok.0, below)
