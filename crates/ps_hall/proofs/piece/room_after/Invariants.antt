use Rattle.std.proofs.Common.{◌≡◌, ◌-◌, drop}
use Rattle.ps_hall.specs.Pieces.{message_bytes}
use Rattle.ps_hall.proofs.piece.room_after.Given as goal

abbrev pub invariant-loop-line : goal.invariant-loop-line
invariant-loop-line l = l.room - message_bytes (drop l.line-index l.lines) ≡ l.before - message_bytes l.lines
