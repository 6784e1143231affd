use Rattle.std.proofs.Common.{◌≡◌, ◌∙◌, length, arith}
use Rattle.ps_chat.proofs.IndexLemmas.{indexed, indexed_id, undone}
use Rattle.ps_chat.proofs.members.Members.push.Goals as goal

pub invariant_of-self-in-Err-1 : goal.invariant_of-self-in-Err-1
invariant_of-self-in-Err-1 c =
    let taken = rw c.conn.view_is at c.in_ok-insert.ensures.updates in
    let back = rw c.conn.view_is at c.remove.ensures.updates in
    rw c.reserve.ensures.items (undone c.self.inside.list.items c.args.member.conn c.len-index.result c.self.inside.indices c.insert.new.self c.remove.new.self c.self.invariant.0 (rw c.self.view_is c.requires) taken back, λ id. c.in-Err.ensures.err id ∙ c.self.invariant.1 id)

pub invariant_of-self-in-Ok : goal.invariant_of-self-in-Ok
invariant_of-self-in-Ok c =
    let end : c.len-index.result ≡ length c.self.inside.list.items = omega (arith, c.self.inside.list.ok.0, c.len-index.ensures) in
    let updates = rw c.conn.view_is at c.in_ok-insert.ensures.updates in
    rw (c.push.ensures.items, c.unwrap.ensures, c.reserve.ensures.items) (
      indexed c.self.inside.list.items c.args.member c.len-index.result c.self.inside.indices c.insert.new.self end c.self.invariant.0 (rw c.self.view_is c.requires) updates,
      indexed_id c.self.inside.list.items c.args.member c.as_str.result.now c.len-index.result c.self.inside.ids c.note_id.new.ids (c.as_str.ensures.value ∙ c.id.ensures) end c.self.invariant.1 c.in-Ok.ensures.ok,
    )
