use Rattle.std.proofs.Common.{◌≡◌, ◌++◌, drop}
use Rattle.replay_script.proofs.line.lines_of.Given as goal

abbrev pub invariant-loop-item : goal.invariant-loop-item
invariant-loop-item l = l.lines.items ++ drop l.item-index l.items ≡ l.items
