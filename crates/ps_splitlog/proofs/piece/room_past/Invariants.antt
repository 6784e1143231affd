use Rattle.std.proofs.Common.{◌≡◌, ◌-◌, take}
use Rattle.ps_splitlog.specs.Pieces.{bytes_in}
use Rattle.ps_splitlog.proofs.piece.room_past.Given as goal

abbrev pub invariant-loop-line : goal.invariant-loop-line
invariant-loop-line l = l.left ≡ l.fn.room - bytes_in (take l.line-index l.lines)
