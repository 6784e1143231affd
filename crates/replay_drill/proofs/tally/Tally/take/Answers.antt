use Rattle.replay_drill.proofs.TallyLemmas.{bytes_more}
use Rattle.replay_drill.proofs.tally.Tally.take.Goals as goal

pub returns : goal.returns
returns c = λ text t. record {
  bytes = bytes_more text c.args.piece.now c.args.self.now.bytes c.saturating_add-self.result t.bytes c.saturating_add-self.ensures;
  digest = c.update.ensures text t.digest;
}
