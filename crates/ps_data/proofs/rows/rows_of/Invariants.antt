use Rattle.std.proofs.Common.{◌≡◌, [], map, length, drop}
use Rattle.serde_json.specs.View.{view}
use Rattle.ps_data.specs.Lists.{each}
use Rattle.ps_data.proofs.rows.rows_of.Given as goal

abbrev pub invariant-loop-i : goal.invariant-loop-i
invariant-loop-i g l = record {
  count : length l.rows ≡ l.i;
  so_far : each (g.F.RowForm.reading l.form) l.rows (map view (drop l.i l.values)) ≡ each (g.F.RowForm.reading l.form) [] (map view l.values);
}
