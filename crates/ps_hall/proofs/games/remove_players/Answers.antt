use Rattle.std.proofs.Common.{◌∙◌}
use Rattle.ps_hall.proofs.GameLemmas.{gone_twice}
use Rattle.ps_hall.proofs.games.remove_players.Goals as goal

pub returns : goal.returns
returns c =
    gone_twice c.args.game.now c.as_str.result.now c.as_str-2.result.now (c.as_str.ensures.value ∙ c.first_id.ensures) (c.as_str-2.ensures.value ∙ c.second_id.ensures)
    c.args.index.now c.remove.new.self c.remove-2.new.self c.remove.ensures c.remove-2.ensures
