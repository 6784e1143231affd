use Rattle.ps_outside.specs.Causes.{Rose}
use Rattle.program_commands.proofs.ConvertLemmas.{import_settles}
use Rattle.program_commands.proofs.convert.import.Goals as goal

pub returns-clause-settles : goal.returns-clause-settles
returns-clause-settles g c =
    import_settles (g.F.Files.contents c.args.files.now) c.args.name.now (g.F.Files.counts c.args.files.now) (g.F.Files.counts c.import_file.new.files)
    (Rose (g.K.Sink.faults c.args.out.now) (g.K.Sink.faults c.import_file.new.out)) c.import_file.result c.import_file.ensures.cause c.import_file.ensures.write_fault
