use Rattle.std.proofs.Common.{ap, ◌∙◌}
use Rattle.std.specs.FinMap.{insert}
use Rattle.ps_users.proofs.ConnLemmas.{inserted}
use Rattle.ps_users.proofs.conn_map.ConnMap.insert.Goals as goal

pub returns-clause-ok : goal.returns-clause-ok
returns-clause-ok g c =
    let new = inserted c.conn.inside.0 c.self.inside.tree c.insert.new.self c.args.value c.in_ok-insert.ensures.updates in
    new ∙ ap (λ m. insert m c.conn.inside.0 c.args.value) c.self.view_is ∙ ap (λ k. insert c.args.self.now k c.args.value) c.conn.view_is
