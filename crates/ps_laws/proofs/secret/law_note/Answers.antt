use Rattle.ps_laws.proofs.NoteLemmas.{notes_may_be_missing, notes_may_differ}
use Rattle.ps_laws.proofs.secret.law_note.Goals as goal

pub returns-clause-missing : goal.returns-clause-missing
returns-clause-missing c = notes_may_be_missing c.args.conn

pub returns-clause-other : goal.returns-clause-other
returns-clause-other c = notes_may_differ c.args.conn
