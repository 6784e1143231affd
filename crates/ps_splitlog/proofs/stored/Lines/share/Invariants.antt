use Rattle.std.proofs.Common.{◌≡◌}
use Rattle.ps_splitlog.proofs.stored.Lines.share.Given as goal

abbrev pub invariant-loop-i : goal.invariant-loop-i
invariant-loop-i l = l.self-inside.inner.items ≡ l.initial.self-inside.inner.items
