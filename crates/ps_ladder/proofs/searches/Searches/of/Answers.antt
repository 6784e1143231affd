use Rattle.std.proofs.Common.{filter, ap, ◌∙◌}
use Rattle.hall_index.specs.Numbered.{items_at}
use Rattle.hall_index.specs.IdIndices.{numbers_at}
use Rattle.hall_index.proofs.IndexLemmas.{indexed_items}
use Rattle.ps_ladder.specs.Waiting.{has_user}
use Rattle.ps_ladder.proofs.searches.Searches.of.Goals as goal

pub returns : goal.returns
returns c =
    c.in_ok-found.ensures
    ∙ ap (λ ns. items_at ns c.self.inside.table.waiting) c.at-numbers.ensures
    ∙ ap (λ id. items_at (numbers_at c.self.inside.table.users id) c.self.inside.table.waiting) c.as_str.ensures.value
    ∙ indexed_items has_user c.self.inside.table.next c.self.inside.table.waiting c.self.inside.table.users c.args.user.now c.self.invariant.by_user
    ∙ ap (filter (has_user c.args.user.now)) c.self.view_is
