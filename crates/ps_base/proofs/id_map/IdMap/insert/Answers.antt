use Rattle.std.proofs.Common.{ap, ◌∙◌, ℕ, List, string_bytes}
use Rattle.std.specs.FinMap.{insert}
use Rattle.ps_base.proofs.ByIdLemmas.{inserted}
use Rattle.ps_base.proofs.id_map.IdMap.insert.Goals as goal

pub returns-clause-ok : goal.returns-clause-ok
returns-clause-ok g c =
    let key = c.in_ok-key.ensures in
    let new = inserted (string_bytes c.in_ok-key.key) c.self.inside.tree c.insert.new.self c.args.value c.in_ok-insert.ensures.updates in
    new ∙ ap (λ m. insert m (string_bytes c.in_ok-key.key) c.args.value) c.self.view_is ∙ ap (λ (id : List ℕ). insert c.args.self.now id c.args.value) key.ok
