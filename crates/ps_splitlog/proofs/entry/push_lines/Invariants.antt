use Rattle.std.proofs.Common.{◌≡◌, ◌++◌, map}
use Rattle.ps_splitlog.specs.Lines.{stored_of_line}
use Rattle.ps_splitlog.proofs.entry.push_lines.Given as goal

abbrev pub invariant-loop-line : goal.invariant-loop-line
invariant-loop-line l = l.stored.items ≡ l.fn.stored.items ++ map stored_of_line l.yielded
