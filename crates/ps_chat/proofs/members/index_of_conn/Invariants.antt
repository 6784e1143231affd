use Rattle.std.proofs.Common.{◌≡◌, ◌==◌, None, take}
use Rattle.ps_chat.specs.Finding.{index_of}
use Rattle.ps_chat.proofs.members.index_of_conn.Given as goal

abbrev pub invariant-loop-i : goal.invariant-loop-i
invariant-loop-i l = index_of (λ p. p.conn == l.conn) (take l.i l.members) ≡ None
