-- A world of a room: what it was opened with, and its history.
use Rattle.std.specs.Prelude.{ℕ, List}
use Rattle.ps_room.specs.declared.entry.Entry.{Entry}
use Rattle.ps_room.specs.Openings.{Opening}
use Rattle.ps_room.specs.Records.{Record, opened}
use Rattle.ps_room.specs.Rooms.{view}
use Rattle.ps_room.specs.Logs.{Seen, seen_opened, run_seen}

pub record Story : Type 0 where
  pub opening : Opening
  pub history : List Entry

abbrev pub story : Opening → List Entry → Story
story opening history = record { opening = opening; history = history }

-- the record before the first entry
abbrev pub begun : Story → Record
begun world = opened world.opening

-- all that a connection is sent, message by message
abbrev pub view_of : ℕ → Story → List (List (List ℕ))
view_of conn world = view conn (begun world) world.history

-- the room after it
abbrev pub seen_of : Story → Seen
seen_of world = run_seen (seen_opened world.opening) world.history
