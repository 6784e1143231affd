use Rattle.std.proofs.Common.{ap, ◌∙◌, rules}
use Rattle.std.specs.Prelude.{is_some}
use Rattle.std.specs.FinMap.{get, insert}
use Rattle.ps_users.proofs.ConnLemmas.{inserted, is_there}
use Rattle.ps_users.proofs.conn_map.ConnMap.set.Goals as goal

pub unwrap-slot-requires : goal.unwrap-slot-requires
unwrap-slot-requires g c =
    let known = ap (λ m. is_some (get m c.conn.inside.0)) c.self.view_is ∙ ap (λ k. is_some (get c.args.self.now k)) c.conn.view_is ∙ c.requires in
    let there = ap is_some c.get_mut.ensures.value ∙ is_there c.self.inside.tree c.conn.inside.0 known in
    search (rules, there)

pub returns : goal.returns
returns g c =
    let known = ap (λ m. is_some (get m c.conn.inside.0)) c.self.view_is ∙ ap (λ k. is_some (get c.args.self.now k)) c.conn.view_is ∙ c.requires in
    let there = is_there c.self.inside.tree c.conn.inside.0 known in
    let new = inserted c.conn.inside.0 c.self.inside.tree (c.get_mut.follows.lender c.args.value) c.args.value ((c.get_mut.follows.holds c.args.value).3 there) in
    new ∙ ap (λ m. insert m c.conn.inside.0 c.args.value) c.self.view_is ∙ ap (λ k. insert c.args.self.now k c.args.value) c.conn.view_is
