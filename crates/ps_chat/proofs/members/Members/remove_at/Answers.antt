use Rattle.std.proofs.Common.{◌<◌, ◌==◌, ◌∙◌, List, length, ap}
use Rattle.ps_chat.specs.declared.present.Present.{Present}
use Rattle.ps_chat.specs.Lookups.{has_id}
use Rattle.ps_chat.specs.Finding.{index_of}
use Rattle.ps_chat.proofs.IndexLemmas.{without_at, had, without_id, had_id}
use Rattle.ps_chat.proofs.members.Members.remove_at.Goals as goal

pub replace-requires : goal.replace-requires
replace-requires c =
    let lt : c.args.index < length c.self.inside.list.items = rw c.self.view_is c.requires in
    let h = had c.self.inside.list.items c.args.index c.remove-gone.result c.self.inside.indices c.shift.new.indices lt c.self.invariant.0 c.shift.ensures in
    rw c.conn.view_is (rw (← c.remove-gone.ensures.value) at h)

pub invariant_of-self : goal.invariant_of-self
invariant_of-self c =
    let lt : c.args.index < length c.self.inside.list.items = rw c.self.view_is c.requires in (
      without_at c.self.inside.list.items c.args.index c.remove-gone.result c.conn.inside.0 c.index_of_conn-next.result c.remove-gone.new.self.items c.self.inside.indices c.shift.new.indices c.replace.new.indices
          lt c.remove-gone.ensures.value c.conn.view_is (c.index_of_conn-next.ensures ∙ ap (λ (ps : List Present). index_of (λ p. p.conn == c.remove-gone.result.conn) ps) c.as_slice.ensures.value) c.remove-gone.ensures.items c.self.invariant.0 c.shift.ensures c.replace.ensures,
      without_id c.self.inside.list.items c.args.index c.remove-gone.result c.as_str-id.result.now c.index_of_id-next_id.result c.remove-gone.new.self.items c.self.inside.ids c.shift_ids.new.ids c.replace_id.new.ids
          lt c.remove-gone.ensures.value (c.as_str-id.ensures.value ∙ c.id.ensures) (c.index_of_id-next_id.ensures ∙ ap (λ (ps : List Present). index_of (has_id c.as_str-id.result.now) ps) c.as_slice-2.ensures.value) c.remove-gone.ensures.items c.self.invariant.1 c.shift_ids.ensures c.replace_id.ensures,
    )

pub replace_id-requires : goal.replace_id-requires
replace_id-requires c =
    let lt : c.args.index < length c.self.inside.list.items = rw c.self.view_is c.requires in
    had_id c.self.inside.list.items c.args.index c.remove-gone.result c.as_str-id.result.now c.self.inside.ids c.shift_ids.new.ids lt c.remove-gone.ensures.value (c.as_str-id.ensures.value ∙ c.id.ensures) c.self.invariant.1 c.shift_ids.ensures
