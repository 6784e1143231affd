use Rattle.std.proofs.Common.{◌≡◌, drop}
use Rattle.ps_splitlog.specs.Entries.{changed}
use Rattle.ps_splitlog.proofs.read.changed.Given as goal

abbrev pub invariant-loop-change : goal.invariant-loop-change
invariant-loop-change l = changed l.conn (drop l.change-index l.changes) l.role ≡ changed l.conn l.changes l.role
