use Rattle.std.proofs.Common.{◌≡◌, ◌++◌, cond, map, drop}
use Rattle.ps_ladder.specs.Waiting.{without}
use Rattle.ps_hall.proofs.coming.without_found.Given as goal

abbrev pub invariant-loop-entry : goal.invariant-loop-entry
invariant-loop-entry l =
    map (λ x. x.now) l.found.items ++ cond l.is_out (map (λ x. x.now) (drop l.entry-index l.list)) (without (map (λ x. x.now) (drop l.entry-index l.list)) l.user l.format l.rating)
    ≡ without (map (λ x. x.now) l.list) l.user l.format l.rating
