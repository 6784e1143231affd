use Rattle.std.proofs.Common.{◌≡◌, ◌++◌, drop}
use Rattle.ps_splitlog.specs.Lines.{shown_lines}
use Rattle.ps_splitlog.proofs.short_log.push_shown_from.Given as goal

abbrev pub invariant-loop-i : goal.invariant-loop-i
invariant-loop-i l =
    l.texts.items ++ shown_lines l.conn l.role (drop l.i l.lines.items) ≡ l.fn.texts.items ++ shown_lines l.conn l.role (drop l.from l.lines.items)
