use Rattle.ps_outside.specs.Causes.{Rose}
use Rattle.program_commands.specs.Words.{checked_of}
use Rattle.program_commands.proofs.CheckLemmas.{check_settles}
use Rattle.program_commands.proofs.check.check.Goals as goal

pub returns-clause-settles : goal.returns-clause-settles
returns-clause-settles g c =
    check_settles (g.F.Files.contents c.args.files.now) (checked_of c.args.words) (g.F.Files.counts c.args.files.now) (g.F.Files.counts c.check_dex.new.files)
    (Rose (g.K.Sink.faults c.args.out.now) (g.K.Sink.faults c.check_dex.new.out)) c.check_dex.result c.check_dex.ensures.ends c.check_dex.ensures.cause c.check_dex.ensures.write_fault
