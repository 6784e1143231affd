use Rattle.std.proofs.Common.{◌≡◌, map, drop}
use Rattle.std.specs.List.{list_any}
use Rattle.serde_json.specs.View.{view}
use Rattle.ps_group.specs.Reading.{shows}
use Rattle.ps_group.proofs.read.any_shows.Given as goal

abbrev pub invariant-loop-value : goal.invariant-loop-value
invariant-loop-value l = list_any (shows l.text) (map view (drop l.value-index l.values)) ≡ list_any (shows l.text) (map view l.values)
