use Rattle.std.proofs.Common.{◌≡◌, drop}
use Rattle.ps_ladder.specs.Waiting.{has_user}
use Rattle.hall_index.specs.Finds.{any_at}
use Rattle.ps_ladder.proofs.table.any_of.Given as goal

abbrev pub invariant-loop-number : goal.invariant-loop-number
invariant-loop-number l = any_at (has_user l.user) l.waiting (drop l.number-index l.numbers) ≡ any_at (has_user l.user) l.waiting l.numbers
