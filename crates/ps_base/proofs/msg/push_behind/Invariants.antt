use Rattle.std.proofs.Common.{◌≡◌, ◌++◌, take}
use Rattle.ps_base.specs.Messages.{behind}
use Rattle.ps_base.proofs.msg.push_behind.Given as goal

abbrev pub invariant-loop-line : goal.invariant-loop-line
invariant-loop-line l = l.text ≡ l.fn.text ++ behind (take l.line-index l.lines)
