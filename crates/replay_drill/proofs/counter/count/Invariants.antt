use Rattle.std.proofs.Common.{◌≡◌, ◌+◌, drop}
use Rattle.replay_drill.specs.Messages.{mark_after, messages_from, counted}
use Rattle.replay_drill.proofs.counter.count.Given as goal

abbrev pub invariant-loop-b : goal.invariant-loop-b
invariant-loop-b l = (mark_after l.now.mark (drop l.b-index l.bytes) ≡ mark_after l.fn.mark l.bytes) × (counted (l.now.messages + messages_from l.now.mark (drop l.b-index l.bytes)) ≡ counted (l.fn.messages + messages_from l.fn.mark l.bytes)) × (l.now.messages ≡ counted l.now.messages)
