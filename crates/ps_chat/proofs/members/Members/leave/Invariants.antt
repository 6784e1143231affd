use Rattle.std.proofs.Common.{◌≡◌, ◌==◌, not, length}
use Rattle.std.specs.List.{filter}
use Rattle.ps_chat.proofs.members.Members.leave.Given as goal

abbrev pub invariant-loop-index : goal.invariant-loop-index
invariant-loop-index l = filter (λ p. not (p.conn == l.conn)) l.self ≡ filter (λ p. not (p.conn == l.conn)) l.fn.self

abbrev pub decreases-loop-index : goal.decreases-loop-index
decreases-loop-index l = length l.self
