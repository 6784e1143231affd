use Rattle.std.proofs.Common.{sym, subst}
use Rattle.ps_session.specs.Kept.{HasNoZero}
use Rattle.ps_session.proofs.KeptLemmas.{no_zero-risen}
use Rattle.ps_session.proofs.room_counts.RoomCounts.keep.Goals as goal

pub invariant_of-self-2 : goal.invariant_of-self-2
invariant_of-self-2 c = (subst HasNoZero (sym c.in_ok-settle.ensures.ok) (no_zero-risen c.self.inside.settled c.self.inside.last c.self.invariant.0 c.self.invariant.1), tt)
