use Rattle.std.proofs.Common.{◌≡◌, ◌<◌, ◌≤◌, ◌++◌, All, drop, length}
use Rattle.ps_mon.specs.Facts.{figures}
use Rattle.ps_mon.specs.Moves.{move_of}
use Rattle.ps_copy.specs.Indices.{indices}
use Rattle.ps_copy.specs.Calling.{is_callable, calls_left}
use Rattle.ps_copy.proofs.calling.callable_indices.Given as goal

abbrev pub invariant-loop-at : goal.invariant-loop-at
invariant-loop-at l = record {
  so_far : l.indices.items ++ indices is_callable l.at (drop l.at l.facts.moves.now) ≡ indices is_callable 0 l.facts.moves.now;
  few : length l.indices.items ≤ l.at;
  inside : All (λ index. index < length l.facts.moves.now) l.indices.items;
  ends : All (λ index. calls_left (move_of (figures l.facts) index).effect < 2) l.indices.items;
}
