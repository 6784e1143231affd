use Rattle.std.proofs.Common.{inr}
use Rattle.std.specs.Arc.{arc_value}
use Rattle.program_commands.specs.Words.{toured_of}
use Rattle.ps_replay.proofs.TourEnds.{front_of_tour, front_of_results, whole_tour}
use Rattle.ps_replay.proofs.tour.play_begun.Goals as goal

pub returns-in-Err-WriteFault-clause-plays : goal.returns-in-Err-WriteFault-clause-plays
returns-in-Err-WriteFault-clause-plays g c =
    front_of_tour (arc_value c.args.config.now) (arc_value c.args.dex.now) c.args.fight.now (toured_of c.args.words) (g.K.Sink.written c.args.out.now) (g.K.Sink.written c.play_all.new.out) c.requires.field
    (rw c.requires.begun at c.in-Err-WriteFault.ensures.err)

pub returns-in-Err-NoMemory-clause-plays : goal.returns-in-Err-NoMemory-clause-plays
returns-in-Err-NoMemory-clause-plays g c =
    inr (front_of_tour (arc_value c.args.config.now) (arc_value c.args.dex.now) c.args.fight.now (toured_of c.args.words) (g.K.Sink.written c.args.out.now) (g.K.Sink.written c.play_all.new.out) c.requires.field
    (rw c.requires.begun at c.in-Err-NoMemory.ensures.err))

pub returns-in-Err-WriteFault-write_results-clause-plays : goal.returns-in-Err-WriteFault-write_results-clause-plays
returns-in-Err-WriteFault-write_results-clause-plays g c =
    front_of_results (arc_value c.args.config.now) (arc_value c.args.dex.now) c.args.fight.now (toured_of c.args.words) c.play_all.new.tour (g.K.Sink.written c.args.out.now) (g.K.Sink.written c.play_all.new.out) (g.K.Sink.written c.write_results.new.out) c.requires.field
    (rw c.requires.begun at c.in-Ok.ensures.ok) c.in-Err-WriteFault-write_results.ensures.err

pub returns-in-Err-NoMemory-write_results-clause-plays : goal.returns-in-Err-NoMemory-write_results-clause-plays
returns-in-Err-NoMemory-write_results-clause-plays g c =
    inr (front_of_results (arc_value c.args.config.now) (arc_value c.args.dex.now) c.args.fight.now (toured_of c.args.words) c.play_all.new.tour (g.K.Sink.written c.args.out.now) (g.K.Sink.written c.play_all.new.out) (g.K.Sink.written c.write_results.new.out) c.requires.field
    (rw c.requires.begun at c.in-Ok.ensures.ok) c.in-Err-NoMemory-write_results.ensures.err)

pub returns-in-Ok-write_results-clause-plays : goal.returns-in-Ok-write_results-clause-plays
returns-in-Ok-write_results-clause-plays g c =
    whole_tour (arc_value c.args.config.now) (arc_value c.args.dex.now) c.args.fight.now (toured_of c.args.words) c.play_all.new.tour (g.K.Sink.written c.args.out.now) (g.K.Sink.written c.play_all.new.out) (g.K.Sink.written c.write_results.new.out)
    c.requires.users.0 c.requires.users.1 c.requires.field (rw c.requires.begun at c.in-Ok.ensures.ok) c.in-Ok-write_results.ensures.wrote
