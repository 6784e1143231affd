use Rattle.std.proofs.Common.{List, ℕ, map, ap, ◌∙◌, ◌-◌, arith}
use Rattle.std.proofs.lemmas.List.{length-map}
use Rattle.std.proofs.lemmas.Bool.{MatchBool-at_false}
use Rattle.ps_base.specs.Messages.{msg_lines}
use Rattle.ps_hall.specs.Pieces.{message_bytes}
use Rattle.ps_hall.specs.Halls.{message_of}
use Rattle.ps_hall.proofs.PieceLemmas.{next_taken}
use Rattle.ps_hall.proofs.piece.first_piece.Goals as goal

pub loop-i-preserved : goal.loop-i-preserved
loop-i-preserved c =
    next_taken c.args.conn c.args.log.now c.args.must (map msg_lines c.loop-i.messages.items) (map msg_lines c.push_message.new.messages.items)
    _ c.loop-i.room c.loop-i.i c.index-log-i.result c.in_ok-lines.lines c.room_after-room.result
    c.loop-i.invariant (omega (arith, length-map c.loop-i.messages.items msg_lines, c.loop-i.messages.ok.0)) (MatchBool-at_false _ _ c.if-ends.false c.ends.ensures) (omega arith) c.index-log-i.is
    (c.in_ok-lines.ensures ∙ ap (message_of c.args.conn) c.as_slice.ensures) c.in_ok-push_message.ensures
    (c.room_after-room.ensures ∙ ap (λ (lines : List (List ℕ)). c.loop-i.room - message_bytes lines) c.as_slice-in-loop-i.ensures)
