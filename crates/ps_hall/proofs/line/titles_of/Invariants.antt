use Rattle.std.proofs.Common.{◌≡◌, map, drop}
use Rattle.serde_json.specs.Data.{no_members}
use Rattle.serde_json.specs.View.{members_view}
use Rattle.ps_hall.specs.Lines.{with_games}
use Rattle.ps_hall.proofs.line.titles_of.Given as goal

abbrev pub invariant-loop-game : goal.invariant-loop-game
invariant-loop-game l = with_games (members_view l.members.entries) (map (λ x. x.now) (drop l.game-index l.games)) ≡ with_games no_members (map (λ x. x.now) l.games)
