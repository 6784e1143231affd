use Rattle.std.proofs.Common.{◌≡◌, [], map, drop, string_bytes}
use Rattle.serde_json.specs.View.{view}
use Rattle.ps_data.specs.Lists.{each_entry}
use Rattle.ps_data.proofs.rows.each_row.Given as goal

abbrev pub invariant-loop-key : goal.invariant-loop-key
invariant-loop-key g l = each_entry (g.F.EntryRowForm.reading l.form) l.rows (map (λ e. (string_bytes e.0.now, view e.1.now)) (drop l.key-index l.pairs)) ≡ each_entry (g.F.EntryRowForm.reading l.form) [] (map (λ e. (string_bytes e.0.now, view e.1.now)) l.pairs)
