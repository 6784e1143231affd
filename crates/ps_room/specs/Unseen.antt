-- Entries that show a connection nothing.
use Rattle.std.specs.Prelude.{◌≡◌, ◌≢◌, ℕ, Bool, false, List, [], None}
use Rattle.ps_lines.specs.declared.command.Command.TheVariants.{Modnote}
use Rattle.ps_event.specs.declared.audience.Audience.TheVariants.{Rank}
use Rattle.ps_room.specs.declared.entry.Entry.{Entry}
use Rattle.ps_room.specs.Records.{Record}
use Rattle.ps_room.specs.Roles.{sees}
use Rattle.ps_room.specs.Rooms.{verdict, after, role, message}

-- whether a connection sees staff notes, by its role in a record
abbrev pub sees_notes : ℕ → Record → Bool
sees_notes conn room = sees conn (role conn room) (Rank room.opening.staff)

pub record IsUnseen (conn : ℕ) (room : Record) (entry : Entry) : Type 0 where
  -- the entry leaves the record as it was, so that nothing which comes later tells of it,
  pub unchanged : after room entry ≡ room
  -- and gives the connection nothing
  pub silent : message conn room entry ≡ []

-- a staff note of another, to who doesn't see staff notes
abbrev pub NotesAreUnseen : Type 0
NotesAreUnseen = (conn : ℕ) (room : Record) (entry : Entry) (text : List ℕ) → conn ≢ entry.conn → entry.cmd ≡ Modnote text
    → verdict room entry ≡ None
    → sees_notes conn room ≡ false → IsUnseen conn room entry
