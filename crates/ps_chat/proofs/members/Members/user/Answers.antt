use Rattle.std.proofs.Common.{arith, sym, ◌∙◌, Some, ap}
use Rattle.ps_chat.specs.declared.present.Present.{Present}
use Rattle.ps_chat.specs.Lookups.{has_id}
use Rattle.ps_chat.proofs.FindLemmas.{find_none, find_at_index, index_below}
use Rattle.ps_chat.proofs.members.Members.user.Goals as goal

pub returns-in-None : goal.returns-in-None
returns-in-None c = rw (← c.self.view_is) (sym (find_none (has_id c.args.id.now) c.self.inside.list.items (sym (c.self.invariant.1 c.args.id.now) ∙ sym c.in-None.ensures.value)))

pub returns-in-Some : goal.returns-in-Some
returns-in-Some c = rw (← c.self.view_is) (ap (λ (m : Present). Some m) c.index.ensures ∙ sym (find_at_index (has_id c.args.id.now) c.self.inside.list.items c.in-Some.index.now c.index.result.now (sym (c.self.invariant.1 c.args.id.now) ∙ sym c.in-Some.ensures.value)))

pub index-requires : goal.index-requires
index-requires c =
    let below = index_below (has_id c.args.id.now) c.self.inside.list.items c.in-Some.index.now (sym (c.self.invariant.1 c.args.id.now) ∙ sym c.in-Some.ensures.value) in
    omega (arith, c.self.inside.list.ok.0, below)
