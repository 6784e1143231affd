use Rattle.ps_laws.proofs.RoomLemmas.{views_are_equal}
use Rattle.ps_laws.proofs.MissingLemmas.{unshown_may_be_missing}
use Rattle.ps_laws.proofs.UndoneLemmas.{idle_may_be_missing, undone_leaves_nothing}
use Rattle.ps_laws.proofs.law.law_room.Goals as goal

pub returns-clause-equal : goal.returns-clause-equal
returns-clause-equal c = views_are_equal c.args.conn

pub returns-clause-met : goal.returns-clause-met
returns-clause-met c = unshown_may_be_missing

pub returns-clause-idle : goal.returns-clause-idle
returns-clause-idle c = idle_may_be_missing

pub returns-clause-undone : goal.returns-clause-undone
returns-clause-undone c = undone_leaves_nothing
