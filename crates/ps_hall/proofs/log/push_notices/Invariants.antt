use Rattle.std.proofs.Common.{◌≡◌, ◌++◌, drop}
use Rattle.ps_hall.specs.Halls.{message_of}
use Rattle.ps_hall.proofs.log.push_notices.Given as goal

abbrev pub invariant-loop-notice : goal.invariant-loop-notice
invariant-loop-notice l = l.lines.items ++ message_of l.conn (drop l.notice-index l.notices) ≡ l.fn.lines.items ++ message_of l.conn l.notices
