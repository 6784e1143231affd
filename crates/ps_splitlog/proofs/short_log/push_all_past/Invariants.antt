use Rattle.std.proofs.Common.{◌≡◌, ◌-◌, ◌++◌, length, take, drop}
use Rattle.ps_splitlog.specs.Lines.{shown_lines}
use Rattle.ps_splitlog.specs.Entries.{logged_lines}
use Rattle.ps_splitlog.proofs.short_log.push_all_past.Given as goal

abbrev pub invariant-loop-i : goal.invariant-loop-i
invariant-loop-i l =
    (l.texts.items ≡ l.fn.texts.items ++ shown_lines l.conn l.role (drop l.skip (logged_lines (take l.i l.kept.items))))
    × (l.left ≡ l.skip - length (logged_lines (take l.i l.kept.items)))
