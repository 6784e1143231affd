use Rattle.ps_replay.proofs.MatchLemmas.{not_begun}
use Rattle.ps_replay.proofs.matches.play_items.Goals as goal

pub returns-in-Err-clause-err : goal.returns-in-Err-clause-err
returns-in-Err-clause-err g c = not_begun _ _ _ _ _ (g.K.Sink.written c.args.out.now)
