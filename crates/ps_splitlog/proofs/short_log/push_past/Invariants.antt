use Rattle.std.proofs.Common.{◌≡◌, ◌-◌, ◌++◌, length, take, drop}
use Rattle.std.specs.List.{filter}
use Rattle.ps_splitlog.specs.Lines.{is_logged_line, shown_lines}
use Rattle.ps_splitlog.proofs.short_log.push_past.Given as goal

abbrev pub invariant-loop-i : goal.invariant-loop-i
invariant-loop-i l =
    (l.texts.items ≡ l.fn.texts.items ++ shown_lines l.conn l.role (drop l.skip (filter is_logged_line (take l.i l.lines))))
    × (l.left ≡ l.skip - length (filter is_logged_line (take l.i l.lines)))
