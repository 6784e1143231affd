use Rattle.std.proofs.Common.{◌≡◌, map, filter, take}
use Rattle.ps_base.specs.Ids.{id_of}
use Rattle.ps_packed.specs.Forms.{has_id}
use Rattle.ps_packed.proofs.read.ids_among.Given as goal

abbrev pub invariant-loop-piece : goal.invariant-loop-piece
invariant-loop-piece l = l.ids.items ≡ map id_of (filter has_id (map (λ x. x.now) (take l.piece-index l.pieces)))
