use Rattle.std.proofs.Common.{ap, ◌∙◌}
use Rattle.std.specs.List.{list_any}
use Rattle.hall_index.specs.IdIndices.{numbers_at}
use Rattle.ps_ladder.specs.Waiting.{is_for}
use Rattle.hall_index.specs.Finds.{any_at}
use Rattle.ps_ladder.proofs.TableLemmas.{waits_is}
use Rattle.ps_ladder.proofs.searches.Searches.is_waiting.Goals as goal

pub returns : goal.returns
returns c =
    c.any_for.ensures
    ∙ ap (any_at (is_for c.args.user.now c.args.format.now) c.self.inside.table.waiting) c.at-numbers.ensures
    ∙ ap (λ id. any_at (is_for c.args.user.now c.args.format.now) c.self.inside.table.waiting (numbers_at c.self.inside.table.users id)) c.as_str.ensures.value
    ∙ waits_is c.self.inside.table c.self.invariant c.args.user.now c.args.format.now
    ∙ ap (list_any (is_for c.args.user.now c.args.format.now)) c.self.view_is
