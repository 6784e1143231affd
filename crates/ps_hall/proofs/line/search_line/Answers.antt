use Rattle.std.proofs.Common.{◌++◌, List, ℕ, ap, ◌∙◌}
use Rattle.ps_ladder.specs.declared.searches.Search.{Search}
use Rattle.ps_hall.specs.declared.game.Game.{Game}
use Rattle.ps_hall.specs.Coming.{games_after, searches_after}
use Rattle.ps_hall.specs.Lines.{search_line}
use Rattle.ps_hall.proofs.JsonLemmas.{five, search_text}
use Rattle.ps_hall.proofs.line.search_line.Goals as goal

pub returns : goal.returns
returns c =
    let games : List Game = games_after c.args.games.now in
    let searches : List Search = searches_after c.args.searches.now in
    c.from_string.ensures
    ∙ five _ _ _ _ _ _ _ _ _ _ _ _ c.in_ok-push_str.ensures.bytes c.in_ok-push_own_games.ensures c.in_ok-push_str-2.ensures.bytes
    c.in_ok-push_own_formats.ensures c.in_ok-push_str-3.ensures.bytes (search_text games searches c.args.id.now)
    ∙ ap (λ (text : List ℕ). text ++ search_line games searches c.args.id.now) c.in_ok-line.ensures.bytes
