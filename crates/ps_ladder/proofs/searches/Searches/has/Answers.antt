use Rattle.std.proofs.Common.{ap, ◌∙◌}
use Rattle.std.specs.List.{list_any}
use Rattle.hall_index.specs.IdIndices.{numbers_at}
use Rattle.ps_ladder.specs.Waiting.{has_user}
use Rattle.hall_index.specs.Finds.{any_at}
use Rattle.ps_ladder.proofs.TableLemmas.{has_is}
use Rattle.ps_ladder.proofs.searches.Searches.has.Goals as goal

pub returns : goal.returns
returns c =
    c.any_of.ensures
    ∙ ap (any_at (has_user c.args.user.now) c.self.inside.table.waiting) c.at-numbers.ensures
    ∙ ap (λ id. any_at (has_user c.args.user.now) c.self.inside.table.waiting (numbers_at c.self.inside.table.users id)) c.as_str.ensures.value
    ∙ has_is c.self.inside.table c.self.invariant c.args.user.now
    ∙ ap (list_any (has_user c.args.user.now)) c.self.view_is
