use Rattle.std.proofs.Common.{ap, ◌∙◌}
use Rattle.std.specs.FinMap.{remove}
use Rattle.ps_base.proofs.ByIdLemmas.{removed}
use Rattle.ps_base.proofs.id_map.IdMap.remove.Goals as goal

pub returns : goal.returns
returns g c = removed c.args.id.now c.self.inside.tree c.remove.new.self c.remove.ensures.updates ∙ ap (λ m. remove m c.args.id.now) c.self.view_is
