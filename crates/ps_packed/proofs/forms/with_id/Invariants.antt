use Rattle.std.proofs.Common.{◌≡◌, ◌+◌, ◌≤◌, map, filter, drop, length}
use Rattle.ps_packed.specs.Forms.{has_id}
use Rattle.ps_packed.proofs.forms.with_id.Given as goal

abbrev pub invariant-loop-piece : goal.invariant-loop-piece
invariant-loop-piece l = record {
  few : l.count ≤ l.piece-index;
  so_far : l.count + length (filter has_id (map (λ x. x.now) (drop l.piece-index l.pieces))) ≡ length (filter has_id (map (λ x. x.now) l.pieces));
}
