use Rattle.std.proofs.Common.{◌≡◌, length}
use Rattle.server_accept.specs.Journals.{AreEnds}
use Rattle.server_accept.proofs.journal.Row.new.Given as goal

-- so many places, and nothing lies there
abbrev pub invariant-loop-place : goal.invariant-loop-place
invariant-loop-place g l = (length l.ends.items ≡ l._place) × AreEnds g.S.Serving.hub l.ends.items
