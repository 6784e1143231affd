use Rattle.std.proofs.Common.{codes, decimal}
use Rattle.json.specs.Print.{escape_byte}
use Rattle.ps_choice.proofs.RequestLemmas.{then_closed}
use Rattle.ps_choice.proofs.request.write_switch.Goals as goal

pub returns : goal.returns
unfolding escape_byte
returns c = then_closed _ _ _ (codes "{\"forceSwitch\":[true],\"rqid\":") (decimal c.args.round) _ _ c.in_ok-write_round.ensures c.in_ok-push_piece.ensures
