use Rattle.std.proofs.Common.{◌≡◌, ◌++◌, map, drop}
use Rattle.hall_index.specs.Numbered.{items_at}
use Rattle.hall_index.proofs.numbered.Numbered.items_at.Given as goal

abbrev pub invariant-loop-number : goal.invariant-loop-number
invariant-loop-number g l = map (λ x. x.now) l.found.items ++ items_at (drop l.number-index l.numbers) l.self ≡ items_at l.numbers l.self
