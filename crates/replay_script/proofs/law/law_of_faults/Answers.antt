use Rattle.replay_script.proofs.OneFault.{one_fault}
use Rattle.replay_script.proofs.SomeFault.{some_fault}
use Rattle.replay_script.proofs.law.law_of_faults.Goals as goal

pub returns-clause-one : goal.returns-clause-one
returns-clause-one c = one_fault

pub returns-clause-some : goal.returns-clause-some
returns-clause-some c = some_fault
