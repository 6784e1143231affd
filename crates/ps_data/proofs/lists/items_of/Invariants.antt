use Rattle.std.proofs.Common.{◌≡◌, [], map, length, drop}
use Rattle.serde_json.specs.View.{view}
use Rattle.ps_data.specs.Lists.{each}
use Rattle.ps_data.proofs.lists.items_of.Given as goal

abbrev pub invariant-loop-i : goal.invariant-loop-i
invariant-loop-i g l = record {
  count : length l.items.items ≡ l.i;
  so_far : each (g.F.ItemForm.reading l.form) l.items.items (map view (drop l.i l.values)) ≡ each (g.F.ItemForm.reading l.form) [] (map view l.values);
}
