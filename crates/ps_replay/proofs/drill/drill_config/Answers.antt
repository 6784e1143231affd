use Rattle.std.specs.Arc.{arc_value}
use Rattle.program_commands.specs.Words.{options_of}
use Rattle.program_commands.proofs.SetupLemmas.{files_settle}
use Rattle.ps_replay.proofs.drill.drill_config.Goals as goal

pub returns-in-Err-clause-settles : goal.returns-in-Err-clause-settles
returns-in-Err-clause-settles g c = record {
  settled = λ good files _. files_settle (g.F.Files.contents c.args.files.now) (options_of c.args.words.options) (arc_value c.args.dex.now) (g.F.Files.counts c.args.files.now) (g.F.Files.counts c.shared_config.new.files) c.in-Err.status c.requires.stands c.in-Err.ensures.alone (rw c.deref.ensures at c.in-Err.ensures.ended) c.in-Err.ensures.cause good files;
}
