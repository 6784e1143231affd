use Rattle.std.specs.Arc.{arc_value}
use Rattle.ps_outside.specs.Causes.{Rose}
use Rattle.program_commands.specs.Words.{options_of, toured_of}
use Rattle.program_commands.proofs.SetupLemmas.{files_settle}
use Rattle.ps_replay.proofs.TourEnds.{run_settles}
use Rattle.ps_replay.proofs.tour.tour_config.Goals as goal

pub returns-in-Err-clause-settles : goal.returns-in-Err-clause-settles
returns-in-Err-clause-settles g c = record {
  settled = λ good files _. files_settle (g.F.Files.contents c.args.files.now) (options_of c.args.words.options) (arc_value c.args.dex.now) (g.F.Files.counts c.args.files.now) (g.F.Files.counts c.shared_config.new.files) c.in-Err.status c.requires.stands c.in-Err.ensures.alone (rw c.deref.ensures at c.in-Err.ensures.ended) c.in-Err.ensures.cause good.files files;
}

pub returns-in-Ok-clause-settles : goal.returns-in-Ok-clause-settles
returns-in-Ok-clause-settles g c =
    run_settles (g.F.Files.contents c.args.files.now) (options_of c.args.words.options) (toured_of c.args.words) (arc_value c.in-Ok.config) (arc_value c.args.dex.now) (g.K.Sink.written c.args.out.now) (g.K.Sink.written c.tour_run.new.out)
    (Rose (g.F.Files.counts c.args.files.now).faults (g.F.Files.counts c.shared_config.new.files).faults) (Rose (g.K.Sink.faults c.args.out.now) (g.K.Sink.faults c.tour_run.new.out)) c.tour_run.result
    (record { dex_is = c.requires.stands; config_is = rw c.deref.ensures at c.in-Ok.ensures.stands }) c.tour_run.ensures.plays c.tour_run.ensures.write_fault
