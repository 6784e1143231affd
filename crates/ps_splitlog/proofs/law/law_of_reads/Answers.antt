use Rattle.ps_splitlog.proofs.ReadLemmas.{reads_compose, reads_agree}
use Rattle.ps_splitlog.proofs.law.law_of_reads.Goals as goal

pub returns-clause-twice : goal.returns-clause-twice
returns-clause-twice c = reads_compose

pub returns-clause-each : goal.returns-clause-each
returns-clause-each c = reads_agree
