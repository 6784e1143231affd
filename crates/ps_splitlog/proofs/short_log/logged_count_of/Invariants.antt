use Rattle.std.proofs.Common.{◌≡◌, length, take}
use Rattle.ps_splitlog.specs.Entries.{logged_lines}
use Rattle.ps_splitlog.proofs.short_log.logged_count_of.Given as goal

abbrev pub invariant-loop-i : goal.invariant-loop-i
invariant-loop-i l =
    l.count ≡ length (logged_lines (take l.i l.kept.items))
