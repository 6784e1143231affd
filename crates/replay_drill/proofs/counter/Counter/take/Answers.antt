use Rattle.replay_drill.proofs.TallyLemmas.{mark_more, messages_more}
use Rattle.replay_drill.proofs.counter.Counter.take.Goals as goal

pub returns : goal.returns
returns c = λ text t. record {
  mark = mark_more text c.args.piece.now c.args.self.now.mark c.count.result.mark t.mark c.count.ensures.mark;
  messages = messages_more text c.args.piece.now c.args.self.now.mark c.args.self.now.messages c.count.result.messages t.mark t.messages c.count.ensures.messages;
}
