use Rattle.std.proofs.Common.{◌≡◌, not, length}
use Rattle.std.specs.List.{filter}
use Rattle.ps_chat.specs.Lookups.{has_id}
use Rattle.ps_chat.proofs.members.Members.take_out.Given as goal

abbrev pub invariant-loop-index : goal.invariant-loop-index
invariant-loop-index l = filter (λ p. not (has_id l.id p)) l.self ≡ filter (λ p. not (has_id l.id p)) l.fn.self

abbrev pub decreases-loop-index : goal.decreases-loop-index
decreases-loop-index l = length l.self
