use Rattle.ps_laws.proofs.UnplayedLemmas.{choices_may_be_missing, choices_may_differ}
use Rattle.ps_laws.proofs.secret.law_choice.Goals as goal

pub returns-clause-missing : goal.returns-clause-missing
returns-clause-missing c = choices_may_be_missing c.args.conn

pub returns-clause-other : goal.returns-clause-other
returns-clause-other c = choices_may_differ c.args.conn
