use Rattle.std.proofs.Common.{sym, subst}
use Rattle.ps_session.specs.Kept.{HasNoZero}
use Rattle.ps_session.proofs.KeptLemmas.{no_zero-empty}
use Rattle.ps_session.proofs.room_counts.RoomCounts.new.Goals as goal

pub invariant_of-result : goal.invariant_of-result
invariant_of-result c = (subst HasNoZero (sym c.new.ensures) no_zero-empty, tt)
