use Rattle.ps_splitlog.proofs.EventLemmas.{events_are_shown, events_are_logged}
use Rattle.ps_splitlog.proofs.law.law_of_events.Goals as goal

pub returns-clause-shown : goal.returns-clause-shown
returns-clause-shown c = events_are_shown

pub returns-clause-logged : goal.returns-clause-logged
returns-clause-logged c = events_are_logged
