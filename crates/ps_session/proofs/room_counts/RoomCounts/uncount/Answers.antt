use Rattle.std.proofs.Common.{ℕ, None, ap, ◌∙◌}
use Rattle.ps_session.specs.Counts.{Counts, without_last}
use Rattle.ps_session.specs.Kept.{counts_of}
use Rattle.ps_session.proofs.KeptLemmas.{without_risen}
use Rattle.ps_session.proofs.room_counts.RoomCounts.uncount.Goals as goal

pub returns : goal.returns
returns c =
    ap (λ (joined : ℕ). counts_of c.self.inside.settled joined None) c.joined_without-self-inside.ensures ∙ without_risen c.self.inside.settled c.self.inside.joined c.self.inside.last c.self.invariant.1 ∙ ap (λ (x : Counts). without_last x.last x) c.self.view_is
