use Rattle.std.proofs.Common.{◌≡◌, drop}
use Rattle.ps_ladder.specs.Waiting.{is_for}
use Rattle.hall_index.specs.Finds.{any_at}
use Rattle.ps_ladder.proofs.table.any_for.Given as goal

abbrev pub invariant-loop-number : goal.invariant-loop-number
invariant-loop-number l = any_at (is_for l.user l.format) l.waiting (drop l.number-index l.numbers) ≡ any_at (is_for l.user l.format) l.waiting l.numbers
