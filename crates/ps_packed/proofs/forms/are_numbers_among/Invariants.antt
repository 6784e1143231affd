use Rattle.std.proofs.Common.{◌≡◌, map, drop}
use Rattle.std.specs.List.{list_all}
use Rattle.ps_packed.specs.Forms.{is_number}
use Rattle.ps_packed.proofs.forms.are_numbers_among.Given as goal

abbrev pub invariant-loop-piece : goal.invariant-loop-piece
invariant-loop-piece l = list_all (is_number l.most) (map (λ x. x.now) (drop l.piece-index l.pieces)) ≡ list_all (is_number l.most) (map (λ x. x.now) l.pieces)
