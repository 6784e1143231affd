use Rattle.std.proofs.Common.{◌≡◌, ◌≤◌, length, take}
use Rattle.std.specs.List.{filter}
use Rattle.ps_splitlog.specs.Lines.{is_logged_line}
use Rattle.ps_splitlog.proofs.short_log.logged_count.Given as goal

abbrev pub invariant-loop-i : goal.invariant-loop-i
invariant-loop-i l =
    (l.count ≡ length (filter is_logged_line (take l.i l.lines))) × (l.count ≤ l.i)
