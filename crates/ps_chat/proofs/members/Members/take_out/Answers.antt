use Rattle.std.proofs.Common.{◌≡◌, ◌∙◌, sym, None, rules}
use Rattle.ps_chat.specs.Lookups.{has_id}
use Rattle.ps_chat.proofs.FindLemmas.{index_below, index_passes, filter_remove, filter_none, length_remove}
use Rattle.ps_chat.proofs.members.Members.take_out.Goals as goal

pub remove_at-requires : goal.remove_at-requires
remove_at-requires c = index_below (has_id c.args.id.now) c.loop-index.self c.in-Some.index (sym c.in-Some.ensures)

pub loop-index-smaller : goal.loop-index-smaller
loop-index-smaller c = rw c.remove_at.ensures (length_remove c.loop-index.self c.in-Some.index (index_below (has_id c.args.id.now) c.loop-index.self c.in-Some.index (sym c.in-Some.ensures)))

pub loop-index-preserved : goal.loop-index-preserved
loop-index-preserved c = rw c.remove_at.ensures (filter_remove (has_id c.args.id.now) c.loop-index.self c.in-Some.index (index_below (has_id c.args.id.now) c.loop-index.self c.in-Some.index (sym c.in-Some.ensures)) (λ d. index_passes (has_id c.args.id.now) c.loop-index.self c.in-Some.index d (sym c.in-Some.ensures)) ∙ c.loop-index.invariant)

pub returns : goal.returns
returns c = let none : c.user_index.result ≡ None = search rules in sym (filter_none (has_id c.args.id.now) c.loop-index.self (sym c.user_index.ensures ∙ none)) ∙ c.loop-index.invariant
