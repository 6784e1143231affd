use Rattle.replay_drill.proofs.PlainLemmas.{plain_names}
use Rattle.program_commands.proofs.dex.read_dex.Goals as goal

pub returns-in-Ok-read-clause-plain : goal.returns-in-Ok-read-clause-plain
returns-in-Ok-read-clause-plain g c = plain_names c.deref.result.now c.in-Ok-read.dex c.in-Ok-read.ensures
