use Rattle.std.proofs.Common.{◌≡◌, map, take, filter}
use Rattle.ps_pms.specs.Lookups.{is_to}
use Rattle.ps_hall.proofs.line.got_by.Given as goal

abbrev pub invariant-loop-challenge : goal.invariant-loop-challenge
invariant-loop-challenge l = map (λ x. x.now) l.got.items ≡ filter (is_to l.id) (map (λ x. x.now) (take l.challenge-index l.asked))
