use Rattle.ps_laws.proofs.NoteLemmas.{whispers_may_be_missing, whispers_may_differ}
use Rattle.ps_laws.proofs.secret.law_whisper.Goals as goal

pub returns-clause-missing : goal.returns-clause-missing
returns-clause-missing c = whispers_may_be_missing c.args.conn

pub returns-clause-other : goal.returns-clause-other
returns-clause-other c = whispers_may_differ c.args.conn
