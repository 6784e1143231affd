use Rattle.ps_replay.proofs.MatchLemmas.{lines_behind, stopped_before, stopped_behind}
use Rattle.ps_replay.proofs.matches.play_from.Goals as goal

pub returns-in-Err-clause-err : goal.returns-in-Err-clause-err
returns-in-Err-clause-err g c =
    stopped_before c.args.items.now c.args.most c.args.format.now c.args.tour.now c.args.table.now (g.K.Sink.written c.args.out.now) (g.K.Sink.written c.replay_from.new.out) c.in-Err.ensures.err

pub returns-in-Ok-play_matches-clause-ok : goal.returns-in-Ok-play_matches-clause-ok
returns-in-Ok-play_matches-clause-ok g c =
    lines_behind c.args.items.now c.args.most c.args.format.now c.args.tour.now c.play_matches.new.tour c.args.table.now (g.K.Sink.written c.args.out.now) (g.K.Sink.written c.replay_from.new.out) (g.K.Sink.written c.play_matches.new.out)
    c.in-Ok.ensures.wrote (rw c.in-Ok.ensures.state at c.in-Ok-play_matches.ensures.ok)

pub returns-in-Err-play_matches-clause-err : goal.returns-in-Err-play_matches-clause-err
returns-in-Err-play_matches-clause-err g c =
    stopped_behind c.args.items.now c.args.most c.args.format.now c.args.tour.now c.args.table.now (g.K.Sink.written c.args.out.now) (g.K.Sink.written c.replay_from.new.out) (g.K.Sink.written c.play_matches.new.out)
    c.in-Ok.ensures.wrote (rw c.in-Ok.ensures.state at c.in-Err-play_matches.ensures.err)
