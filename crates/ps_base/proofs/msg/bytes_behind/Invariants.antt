use Rattle.std.proofs.Common.{◌≡◌, ◌<◌, ◌^◌, length, take}
use Rattle.ps_base.specs.Messages.{behind}
use Rattle.ps_base.proofs.msg.bytes_behind.Given as goal

abbrev pub invariant-loop-line : goal.invariant-loop-line
invariant-loop-line l = length (behind (take l.line-index l.lines)) < 2 ^ 64 → l.bytes ≡ length (behind (take l.line-index l.lines))
