use Rattle.std.proofs.Common.{[], map}
use Rattle.std.proofs.lemmas.Result.{err_from_is_err_and}
use Rattle.ps_data.specs.Lists.{each_entry}
use Rattle.ps_data.proofs.Each.{entry_goes_on, entry_fails, entries_end, seen}
use Rattle.ps_data.proofs.rows.each_row.Goals as goal

pub returns-in_err-row : goal.returns-in_err-row
returns-in_err-row g c =
    let form = g.F.EntryRowForm.reading c.args.form.now in
    let p = err_from_is_err_and c.from_residual.result c.from_residual.ensures.1 in
    let read = rw c.as_str-key.ensures.value at c.read.ensures.gives in
    let there = rw c.as_str-key.ensures.value at (c.in_err-row.ensures.deeper _ read) in
    rw (p.1, p.2) (entry_fails form seen c.loop-key.rows c.args.pairs.now c.loop-key.key-index c.loop-key-item.result c.in_err-row.field-0.0 (each_entry form [] (map seen c.args.pairs.now)) c.loop-key-test.true c.loop-key-item.is there c.loop-key.invariant)

pub loop-key-preserved : goal.loop-key-preserved
loop-key-preserved g c =
    let form = g.F.EntryRowForm.reading c.args.form.now in
    let read = rw c.as_str-key.ensures.value at c.read.ensures.gives in
    let there = rw c.as_str-key.ensures.value at (c.in_ok-row.ensures.deeper _ read) in
    rw c.in_ok-push.ensures.ok (entry_goes_on form seen c.loop-key.rows c.args.pairs.now c.loop-key.key-index c.loop-key-item.result c.in_ok-row.row (each_entry form [] (map seen c.args.pairs.now)) c.loop-key-test.true c.loop-key-item.is there c.loop-key.invariant)

pub returns : goal.returns
returns g c =
    let form = g.F.EntryRowForm.reading c.args.form.now in
    entries_end form seen c.loop-key.rows c.args.pairs.now c.loop-key.key-index (each_entry form [] (map seen c.args.pairs.now)) c.loop-key-test.false c.loop-key.invariant
