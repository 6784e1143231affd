use Rattle.std.proofs.Common.{◌≡◌, [], map, length, drop}
use Rattle.serde_json.specs.View.{view}
use Rattle.ps_data.specs.Lists.{each}
use Rattle.ps_dex.specs.Species.{learned_in}
use Rattle.ps_dex.proofs.species.each_learned.Given as goal

abbrev pub invariant-loop-i : goal.invariant-loop-i
invariant-loop-i l = record {
  count : length l.learns.keys ≡ l.i;
  so_far : each (λ before after. learned_in l.moves before) l.learns.keys (map view (drop l.i l.values)) ≡ each (λ before after. learned_in l.moves before) [] (map view l.values);
}
