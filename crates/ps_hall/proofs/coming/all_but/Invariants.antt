use Rattle.std.proofs.Common.{◌≡◌, ◌++◌, map, drop}
use Rattle.ps_hall.specs.Steps.{without_game}
use Rattle.ps_hall.proofs.coming.all_but.Given as goal

abbrev pub invariant-loop-game : goal.invariant-loop-game
invariant-loop-game l = map (λ x. x.now) l.found.items ++ without_game (map (λ x. x.now) (drop l.game-index l.games)) l.number ≡ without_game (map (λ x. x.now) l.games) l.number
