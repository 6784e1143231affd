use Rattle.std.proofs.Common.{◌≡◌, ◌<◌, [], All, length, drop}
use Rattle.ps_valid.specs.MoveRows.{each_move}
use Rattle.ps_valid.proofs.move_rows.moves_of.Given as goal

abbrev pub invariant-loop-id : goal.invariant-loop-id
invariant-loop-id l = record {
  count : length l.moves.items ≡ l.id-index;
  known : All (λ mv. mv < length l.dex.moves) l.moves.items;
  so_far : each_move l.dex l.rules l.set l.species l.moves.items (drop l.id-index l.ids) ≡ each_move l.dex l.rules l.set l.species [] l.ids;
}
