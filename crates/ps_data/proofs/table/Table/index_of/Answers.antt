use Rattle.std.proofs.Common.{◌∙◌, ap}
use Rattle.std.specs.Prelude.{position, bytes_eq}
use Rattle.ps_data.proofs.TableLemmas.{index_of_row}
use Rattle.ps_data.proofs.table.Table.index_of.Goals as goal

pub returns-clause-index : goal.returns-clause-index
returns-clause-index g c =
    let own = g.T.HasId.id_of in
    c.get_index_of.ensures.index ∙ index_of_row own c.args.id.now c.self.inside.rows.entries c.self.invariant ∙ ap (position (λ t. bytes_eq (own t) c.args.id.now)) c.self.view_is
