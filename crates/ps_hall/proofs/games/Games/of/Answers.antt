use Rattle.std.proofs.Common.{◌+◌, ap, ◌∙◌}
use Rattle.hall_index.specs.Numbered.{items_at}
use Rattle.hall_index.specs.IdIndices.{numbers_at}
use Rattle.hall_index.proofs.IndexLemmas.{indexed_items}
use Rattle.ps_hall.specs.Lookups.{games_of, plays}
use Rattle.ps_hall.specs.Games.{Played}
use Rattle.ps_hall.proofs.games.Games.of.Goals as goal

pub returns : goal.returns
returns c =
    c.in_ok-found.ensures
    ∙ ap (λ ns. items_at ns c.self.inside.table.games) c.at-numbers.ensures
    ∙ ap (λ id. items_at (numbers_at c.self.inside.table.players id) c.self.inside.table.games) c.as_str.ensures.value
    ∙ indexed_items plays (c.self.inside.table.started + 1) c.self.inside.table.games c.self.inside.table.players c.args.id.now c.self.invariant.indexed
    ∙ ap (λ (p : Played). games_of p.list c.args.id.now) c.self.view_is
