use Rattle.std.proofs.Common.{◌≡◌, None, take}
use Rattle.ps_chat.specs.Lookups.{has_id}
use Rattle.ps_chat.specs.Finding.{index_of}
use Rattle.ps_chat.proofs.members.index_of_id.Given as goal

abbrev pub invariant-loop-i : goal.invariant-loop-i
invariant-loop-i l = index_of (has_id l.id) (take l.i l.members) ≡ None
