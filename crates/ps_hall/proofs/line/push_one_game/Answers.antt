use Rattle.ps_hall.proofs.JsonLemmas.{three, one_game}
use Rattle.ps_hall.proofs.line.push_one_game.Goals as goal

pub returns : goal.returns
returns c = three _ _ _ _ _ _ _ _ c.in_ok-push_str.ensures.bytes c.in_ok-push_game.ensures c.in_ok-push_str-2.ensures.bytes (one_game c.args.game.now)
