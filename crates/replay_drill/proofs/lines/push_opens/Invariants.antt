use Rattle.std.proofs.Common.{◌≡◌, ◌++◌, string_bytes}
use Rattle.replay_drill.specs.Lines.{open_line}
use Rattle.replay_drill.proofs.lines.push_opens.Given as goal
use Rattle.ps_base.specs.Lists.{each_to}

abbrev pub invariant-loop-i : goal.invariant-loop-i
invariant-loop-i l = string_bytes l.script ≡ string_bytes l.fn.script ++ each_to open_line l.i
