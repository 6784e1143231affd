use Rattle.std.proofs.Common.{◌≡◌, ◌++◌, map, drop}
use Rattle.ps_hall.proofs.coming.all_of.Given as goal

abbrev pub invariant-loop-game : goal.invariant-loop-game
invariant-loop-game l = map (λ x. x.now) l.found.items ++ map (λ x. x.now) (drop l.game-index l.games) ≡ map (λ x. x.now) l.games
