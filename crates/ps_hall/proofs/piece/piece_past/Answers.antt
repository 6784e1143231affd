use Rattle.std.proofs.Common.{◌∙◌, arith, ap}
use Rattle.ps_hall.specs.Halls.{pulled}
use Rattle.ps_hall.proofs.PieceLemmas.{piece_is}
use Rattle.ps_hall.proofs.piece.piece_past.Goals as goal

pub returns-clause-messages : goal.returns-clause-messages
returns-clause-messages c =
    c.in_ok-piece.ensures.messages ∙ ap (pulled c.args.conn) (piece_is c.args.log.now c.past-later.result.now c.args.at c.saturating_sub-end.result c.in_ok-piece.piece.left c.past-later.ensures (omega arith) (omega (arith, c.in_ok-piece.ensures.left)))
