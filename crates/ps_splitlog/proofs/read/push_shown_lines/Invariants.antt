use Rattle.std.proofs.Common.{◌≡◌, ◌++◌, drop}
use Rattle.ps_splitlog.specs.Lines.{shown_lines}
use Rattle.ps_splitlog.proofs.read.push_shown_lines.Given as goal

abbrev pub invariant-loop-line : goal.invariant-loop-line
invariant-loop-line l = l.texts.items ++ shown_lines l.conn l.role (drop l.line-index l.lines) ≡ l.fn.texts.items ++ shown_lines l.conn l.role l.lines
