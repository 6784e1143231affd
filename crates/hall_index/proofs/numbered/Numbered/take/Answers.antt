use Rattle.std.proofs.Common.{ap, ◌∙◌}
use Rattle.hall_index.specs.Numbered.{without}
use Rattle.hall_index.proofs.NumberLemmas.{removed}
use Rattle.hall_index.proofs.numbered.Numbered.take.Goals as goal

pub returns-clause-after : goal.returns-clause-after
returns-clause-after g c = c.remove.ensures.entries ∙ removed c.args.number c.self.inside.tree.entries c.self.invariant ∙ ap (without c.args.number) c.self.view_is
