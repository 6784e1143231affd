use Rattle.std.proofs.Common.{◌≡◌, ◌<◌, ◌≤◌, ◌++◌, All, drop, length}
use Rattle.ps_copy.specs.Indices.{indices}
use Rattle.ps_copy.proofs.disabling.slots_with_pp.Given as goal

abbrev pub invariant-loop-slot : goal.invariant-loop-slot
invariant-loop-slot l = record {
  so_far : l.slots.items ++ indices (λ r. r) l.slot (drop l.slot l.ready) ≡ indices (λ r. r) 0 l.ready;
  few : length l.slots.items ≤ l.slot;
  inside : All (λ slot. slot < 4) l.slots.items;
}
