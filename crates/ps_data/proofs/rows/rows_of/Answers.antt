use Rattle.std.proofs.Common.{[], map, ◌∷◌, ◌+◌, arith}
use Rattle.std.proofs.lemmas.Result.{err_from_is_err_and}
use Rattle.std.proofs.lemmas.List.{length-append}
use Rattle.serde_json.specs.View.{view}
use Rattle.ps_data.specs.Lists.{each}
use Rattle.ps_data.proofs.Each.{goes_on, fails, ends, from_on}
use Rattle.ps_data.proofs.rows.rows_of.Goals as goal

pub returns-in_err-row-clause-gives : goal.returns-in_err-row-clause-gives
returns-in_err-row-clause-gives g c =
    let form = g.F.RowForm.reading c.args.form.now in
    let p = err_from_is_err_and c.from_residual.result c.from_residual.ensures.1 in
    let read = rw (from_on c.args.values.now (c.loop-i.i + 1)) at c.read.ensures.gives in
    rw (p.1, p.2) (fails form c.loop-i.rows c.args.values.now c.loop-i.i c.index-values-i.result c.in_err-row.field-0.0 (each form [] (map view c.args.values.now)) c.loop-i-test.true c.index-values-i.is c.loop-i.invariant.count (c.in_err-row.ensures.deeper _ read) c.loop-i.invariant.so_far)

pub loop-i-preserved : goal.loop-i-preserved
loop-i-preserved g c =
    let form = g.F.RowForm.reading c.args.form.now in
    let read = rw (from_on c.args.values.now (c.loop-i.i + 1)) at c.read.ensures.gives in
    record {
      count = rw c.in_ok-push.ensures.ok (omega (arith, c.loop-i.invariant.count, length-append c.loop-i.rows (c.in_ok-row.row ∷ [])));
      so_far = rw c.in_ok-push.ensures.ok (goes_on form c.loop-i.rows c.args.values.now c.loop-i.i c.index-values-i.result c.in_ok-row.row (each form [] (map view c.args.values.now)) c.loop-i-test.true c.index-values-i.is c.loop-i.invariant.count (c.in_ok-row.ensures.deeper _ read) c.loop-i.invariant.so_far);
    }

pub returns-clause-gives : goal.returns-clause-gives
returns-clause-gives g c =
    ends (g.F.RowForm.reading c.args.form.now) c.loop-i.rows c.args.values.now c.loop-i.i (each (g.F.RowForm.reading c.args.form.now) [] (map view c.args.values.now)) c.loop-i-test.false c.loop-i.invariant.so_far
