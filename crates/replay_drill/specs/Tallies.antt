-- What a tally and a counter of messages hold. No statement of the top call rests on this file.
use Rattle.std.specs.Prelude.{◌≡◌, ℕ, List, length}
use Rattle.sha2.specs.Hashers.{Holds256}
use Rattle.replay_drill.specs.declared.mark.Mark.TheVariants.{Start}
use Rattle.replay_drill.specs.declared.counter.Counter.{Counter}
use Rattle.replay_drill.specs.declared.tally.Tally.{Tally}
use Rattle.replay_drill.specs.Messages.{mark_after, messages_in, counted}

-- it is the tally of this text
pub record Tallies (tally : Tally) (text : List ℕ) : Type 0 where
  pub bytes : tally.bytes ≡ counted (length text)
  pub digest : Holds256 tally.hasher text

-- it counts the messages of this text
pub record Counts (counter : Counter) (text : List ℕ) : Type 0 where
  pub mark : counter.mark ≡ mark_after Start text
  pub messages : counter.messages ≡ counted (messages_in text)
