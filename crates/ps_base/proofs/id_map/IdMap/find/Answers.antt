use Rattle.std.proofs.Common.{sym, ap, ◌∙◌}
use Rattle.std.specs.FinMap.{get}
use Rattle.ps_base.proofs.ByIdLemmas.{get_by_id}
use Rattle.ps_base.proofs.id_map.IdMap.find.Goals as goal

pub returns : goal.returns
returns g c =
    let found = get_by_id c.self.inside.tree c.args.id.now in
    c.get.ensures.value ∙ sym found ∙ ap (λ m. get m c.args.id.now) c.self.view_is
