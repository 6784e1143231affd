use Rattle.std.proofs.Common.{◌≡◌, ◌++◌, drop}
use Rattle.ps_splitlog.specs.Indices.{shown_at}
use Rattle.ps_splitlog.proofs.read.push_all_shown_at.Given as goal

abbrev pub invariant-loop-i : goal.invariant-loop-i
invariant-loop-i l = l.texts.items ++ shown_at l.conn l.role l.entries (drop l.i l.line_indices) ≡ l.fn.texts.items ++ shown_at l.conn l.role l.entries l.line_indices
