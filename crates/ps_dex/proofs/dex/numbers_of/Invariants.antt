use Rattle.std.proofs.Common.{◌≡◌, map, take}
use Rattle.ps_dex.proofs.dex.numbers_of.Given as goal

abbrev pub invariant-loop-item : goal.invariant-loop-item
invariant-loop-item l = l.numbers.items ≡ map (λ m. m.numbers) (take l.item-index l.moves)
