use Rattle.std.proofs.Common.{sym, ap, ◌∙◌}
use Rattle.std.specs.FinMap.{get, remove}
use Rattle.ps_base.proofs.ByIdLemmas.{get_by_id, removed}
use Rattle.ps_base.proofs.id_map.IdMap.take.Goals as goal

pub returns-clause-value : goal.returns-clause-value
returns-clause-value g c =
    let found = get_by_id c.self.inside.tree c.args.id.now in
    c.remove.ensures.value ∙ sym found ∙ ap (λ m. get m c.args.id.now) c.self.view_is

pub returns-clause-after : goal.returns-clause-after
returns-clause-after g c = removed c.args.id.now c.self.inside.tree c.remove.new.self c.remove.ensures.updates ∙ ap (λ m. remove m c.args.id.now) c.self.view_is
