-- What a chat room is, and what an entry that is applied makes of it.
use Rattle.std.specs.Prelude.{ℕ, List, []}
use Rattle.ps_base.specs.declared.badge.Badge.{Badge}
use Rattle.ps_lines.specs.declared.command.Command.{Command}
use Rattle.ps_chat.specs.Records.{Opening, Record, nobody}
use Rattle.ps_chat.specs.Lines.{Line}
use Rattle.ps_chat.specs.Told.{lines}
use Rattle.ps_chat.specs.Changes.{record_after}

-- what it was opened with, its record, and the lines of the entry that was applied last; a change of the record alone leaves
-- them as they were
pub record Seen : Type 0 where
  pub opening : Opening
  pub state : Record
  pub lines : List Line

-- a new room
abbrev pub opened : Opening → Seen
opened opening = record { opening = opening; state = nobody; lines = [] }

-- a room after an entry that is applied
abbrev pub after : Seen → ℕ → Badge → ℕ → Command → Seen
after seen conn badge moment cmd = record {
  opening = seen.opening;
  state = record_after seen.opening.groups seen.state conn badge moment cmd;
  lines = lines seen.opening seen.state conn badge moment cmd;
}
