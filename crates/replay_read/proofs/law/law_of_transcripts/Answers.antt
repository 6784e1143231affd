use Rattle.replay_read.proofs.ReadLemmas.{to_be_read, read_back}
use Rattle.replay_read.proofs.law.law_of_transcripts.Goals as goal

pub returns-clause-printed : goal.returns-clause-printed
returns-clause-printed c = to_be_read

pub returns-clause-read : goal.returns-clause-read
returns-clause-read c = read_back
