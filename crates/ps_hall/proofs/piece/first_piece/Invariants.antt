use Rattle.std.proofs.Common.{map}
use Rattle.ps_base.specs.Messages.{msg_lines}
use Rattle.ps_hall.proofs.PieceLemmas.{IsTaken}
use Rattle.ps_hall.proofs.piece.first_piece.Given as goal

abbrev pub invariant-loop-i : goal.invariant-loop-i
invariant-loop-i l = IsTaken l.conn l.log l.must (map msg_lines l.messages.items) l.room l.i
