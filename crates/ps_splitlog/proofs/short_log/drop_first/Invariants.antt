use Rattle.std.proofs.Common.{◌≡◌, drop}
use Rattle.ps_splitlog.proofs.short_log.drop_first.Given as goal

abbrev pub invariant-loop-i : goal.invariant-loop-i
invariant-loop-i l =
    l.backlog.items ≡ drop l._i l.fn.backlog.items
