use Rattle.std.proofs.Common.{sym, ap, ◌∙◌}
use Rattle.std.specs.FinMap.{get, remove}
use Rattle.ps_users.proofs.ConnLemmas.{get_by_conn, removed}
use Rattle.ps_users.proofs.conn_map.ConnMap.take.Goals as goal

pub returns-clause-value : goal.returns-clause-value
returns-clause-value g c =
    let found = get_by_conn c.self.inside.tree c.conn.inside.0 in
    c.remove.ensures.value ∙ sym found ∙ ap (λ m. get m c.conn.inside.0) c.self.view_is ∙ ap (get c.args.self.now) c.conn.view_is

pub returns-clause-after : goal.returns-clause-after
returns-clause-after g c =
    removed c.conn.inside.0 c.self.inside.tree c.remove.new.self c.remove.ensures.updates ∙ ap (λ m. remove m c.conn.inside.0) c.self.view_is ∙ ap (remove c.args.self.now) c.conn.view_is
