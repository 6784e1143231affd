use Rattle.std.proofs.Common.{◌≡◌, ◌++◌, map, drop}
use Rattle.ps_hall.specs.Halls.{pulled}
use Rattle.ps_hall.proofs.log.push_pulled.Given as goal
use Rattle.ps_base.specs.Messages.{msg_lines}

abbrev pub invariant-loop-notices : goal.invariant-loop-notices
invariant-loop-notices l = map msg_lines l.messages.items ++ pulled l.conn (drop l.notices-index l.log) ≡ map msg_lines l.fn.messages.items ++ pulled l.conn l.log
