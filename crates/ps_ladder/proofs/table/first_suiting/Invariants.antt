use Rattle.std.proofs.Common.{◌≡◌, drop}
use Rattle.hall_index.specs.Finds.{first_at}
use Rattle.ps_ladder.specs.Waiting.{suits}
use Rattle.ps_ladder.proofs.table.first_suiting.Given as goal

abbrev pub invariant-loop-number : goal.invariant-loop-number
invariant-loop-number l = first_at (suits l.user l.format l.rating) l.waiting (drop l.number-index l.numbers) ≡ first_at (suits l.user l.format l.rating) l.waiting l.numbers
