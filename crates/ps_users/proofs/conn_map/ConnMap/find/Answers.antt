use Rattle.std.proofs.Common.{sym, ap, ◌∙◌}
use Rattle.std.specs.FinMap.{get}
use Rattle.ps_users.proofs.ConnLemmas.{get_by_conn}
use Rattle.ps_users.proofs.conn_map.ConnMap.find.Goals as goal

pub returns : goal.returns
returns g c =
    let found = get_by_conn c.self.inside.tree c.conn.inside.0 in
    c.get.ensures.value ∙ sym found ∙ ap (λ m. get m c.conn.inside.0) c.self.view_is ∙ ap (get c.args.self.now) c.conn.view_is
