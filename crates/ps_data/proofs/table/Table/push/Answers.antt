use Rattle.std.proofs.Common.{◌≡◌, ◌∙◌, ◌++◌, ◌∷◌, [], not, ap, string_bytes}
use Rattle.ps_data.specs.OwnIds.{has_id, IsNew}
use Rattle.ps_data.specs.Tables.{rows_of}
use Rattle.ps_data.proofs.TableLemmas.{inserted}
use Rattle.ps_data.proofs.table.Table.push.Goals as goal

pub invariant_of-self-2 : goal.invariant_of-self-2
invariant_of-self-2 g c =
    let own = g.T.HasId.id_of in
    let key : string_bytes c.in_ok-id.id ≡ own c.args.row = c.in_ok-id.ensures.ok ∙ c.id.ensures in
    let new : IsNew own (own c.args.row) (rows_of c.self.inside.rows.entries) = ap (λ rs. not (has_id own (own c.args.row) rs)) c.self.view_is ∙ c.requires in
    rw c.in_ok-insert.ensures.entries (inserted own c.in_ok-id.id c.args.row c.self.inside.rows.entries key c.self.invariant new).0

pub returns-clause-ok : goal.returns-clause-ok
returns-clause-ok g c =
    let own = g.T.HasId.id_of in
    let key : string_bytes c.in_ok-id.id ≡ own c.args.row = c.in_ok-id.ensures.ok ∙ c.id.ensures in
    let new : IsNew own (own c.args.row) (rows_of c.self.inside.rows.entries) = ap (λ rs. not (has_id own (own c.args.row) rs)) c.self.view_is ∙ c.requires in
    ap rows_of c.in_ok-insert.ensures.entries ∙ (inserted own c.in_ok-id.id c.args.row c.self.inside.rows.entries key c.self.invariant new).1 ∙ ap (λ rs. rs ++ c.args.row ∷ []) c.self.view_is
