use Rattle.ps_outside.specs.Causes.{Rose}
use Rattle.program_commands.proofs.ConvertLemmas.{export_settles}
use Rattle.program_commands.proofs.convert.export.Goals as goal

pub returns-clause-settles : goal.returns-clause-settles
returns-clause-settles g c =
    export_settles (g.F.Files.contents c.args.files.now) c.args.name.now (g.F.Files.counts c.args.files.now) (g.F.Files.counts c.export_file.new.files)
    (Rose (g.K.Sink.faults c.args.out.now) (g.K.Sink.faults c.export_file.new.out)) c.export_file.result c.export_file.ensures.cause c.export_file.ensures.write_fault
