use Rattle.std.specs.Arc.{arc_value}
use Rattle.program_commands.specs.Words.{toured_of}
use Rattle.ps_replay.proofs.TourEnds.{lacks_plays}
use Rattle.ps_replay.proofs.tour.tour_run.Goals as goal

pub returns-in-Err-clause-plays : goal.returns-in-Err-clause-plays
returns-in-Err-clause-plays g c =
    lacks_plays (toured_of c.args.words) (g.K.Sink.written c.args.out.now) (arc_value c.args.config.now) (arc_value c.args.dex.now) c.in-Err.status (rw (c.deref.ensures, c.deref-2.ensures) at c.in-Err.ensures.none)
