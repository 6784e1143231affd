use Rattle.std.proofs.Common.{◌≡◌, ◌≤◌, ◌+◌, ◌++◌, length}
use Rattle.std.specs.List.{filter}
use Rattle.std.specs.VecDeque.{deque_len, deque_capacity}
use Rattle.ps_splitlog.specs.Lines.{is_logged_line}
use Rattle.ps_splitlog.proofs.short_log.push_all_logged.Given as goal

abbrev pub invariant-loop-line : goal.invariant-loop-line
invariant-loop-line l =
    (l.backlog.items ≡ l.fn.backlog.items ++ filter is_logged_line l.yielded)
    × (deque_len l.backlog ≤ deque_len l.fn.backlog + length l.yielded)
    × (deque_capacity l.backlog ≡ deque_capacity l.fn.backlog)
