use Rattle.std.proofs.Common.{◌≡◌, find, map, drop}
use Rattle.ps_pms.specs.Lookups.{is_by}
use Rattle.ps_hall.proofs.line.made_by.Given as goal

abbrev pub invariant-loop-challenge : goal.invariant-loop-challenge
invariant-loop-challenge l = find (is_by l.id) (map (λ x. x.now) (drop l.challenge-index l.asked)) ≡ find (is_by l.id) (map (λ x. x.now) l.asked)
