use Rattle.server_accept.specs.Journals.{AreFilled}
use Rattle.server_accept.proofs.journal.are_filled.Given as goal

-- none of the places so far is empty
abbrev pub invariant-loop-place : goal.invariant-loop-place
invariant-loop-place l = AreFilled l.place l.ends
