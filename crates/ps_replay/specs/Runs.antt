-- What came of a run: for the code alone.
use Rattle.std.specs.Prelude.{◌≡◌, ℕ, List, ◌++◌, length}
use Rattle.sha2.specs.Sha256.{sha256}
use Rattle.replay_script.specs.declared.item.Item.{Item}
use Rattle.replay_state.specs.Ledgers.{blank}
use Rattle.replay_state.specs.Tables.{Desk, ledger_from, text_from}
use Rattle.replay_drill.specs.declared.tally.Tally.{Tally}
use Rattle.replay_drill.specs.Messages.{messages_in}
use Rattle.replay_drill.specs.Tallies.{Tallies, Counts}
use Rattle.ps_replay.specs.declared.drill.Run.{Run}
use Rattle.ps_replay.specs.Drills.{summary_lines}

-- it is of these lines from a state on, behind a text with this tally
pub record SummarizesRun (tally : Tally) (desk : Desk) (items : List Item) (run : Run) : Type 0 where
  pub tallies : (text : List ℕ) → Tallies tally text → Tallies run.tally (text ++ text_from desk items)
  pub counter : Counts run.counter (text_from desk items)
  pub counts : run.counts ≡ (ledger_from desk items blank).counts

-- this is its summary, for a script of so many lines, whatever text it was that was tallied, with which transcript
pub record HasRun (run : Run) (all : ℕ) (summary : List ℕ) : Type 0 where
  pub summary_is : (script transcript : List ℕ) → Tallies run.tally (script ++ transcript) → Counts run.counter transcript
      → summary ≡ summary_lines all run.counts.entries run.counts.refused (messages_in transcript) (length (script ++ transcript))
      (sha256 (script ++ transcript))
