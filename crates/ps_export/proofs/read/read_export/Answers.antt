use Rattle.ps_export.proofs.ReadLemmas.{one_export, if_some}
use Rattle.ps_export.proofs.read.read_export.Goals as goal

pub returns-in-Some-clause-alone : goal.returns-in-Some-clause-alone
returns-in-Some-clause-alone c = λ other is. one_export c.args.text.now other c.in-Some.team is (if_some _ _ c.in-Some.team c.in-Some.is c.in_ok-team.ensures.found)
