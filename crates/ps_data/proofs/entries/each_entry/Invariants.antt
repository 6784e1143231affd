use Rattle.std.proofs.Common.{◌≡◌, [], map, drop, string_bytes}
use Rattle.serde_json.specs.View.{view}
use Rattle.ps_data.specs.Lists.{each_entry}
use Rattle.ps_data.proofs.entries.each_entry.Given as goal

abbrev pub invariant-loop-key : goal.invariant-loop-key
invariant-loop-key g l = each_entry (g.F.EntryForm.reading l.form) l.entries.items (map (λ e. (string_bytes e.0.now, view e.1.now)) (drop l.key-index l.pairs)) ≡ each_entry (g.F.EntryForm.reading l.form) [] (map (λ e. (string_bytes e.0.now, view e.1.now)) l.pairs)
