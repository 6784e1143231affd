-- A room as a replay keeps it: of what it logged what who joins may still be shown, and no entry.
use Rattle.std.specs.Prelude.{List, ◌++◌}
use Rattle.ps_splitlog.specs.declared.backlog.BacklogSize.{BacklogSize}
use Rattle.ps_splitlog.specs.declared.stored.Stored.{Stored}
use Rattle.ps_splitlog.specs.Entries.{logged_in, logged_lines, last_of}
use Rattle.ps_room.specs.declared.entry.Entry.{Entry}
use Rattle.ps_room.specs.Openings.{Opening}
use Rattle.ps_room.specs.Records.{cast_in}
use Rattle.ps_room.specs.Logs.{Seen, backlog_size, record_in, kept_of, unlogged, seen_opened, state_after}

-- the room apart from its log, how many lines that were logged who joins is sent, and these
pub record Kept : Type 0 where
  pub room : Seen
  pub most : BacklogSize
  pub backlog : List Stored

-- what is kept of a room with a log
abbrev pub kept : Seen → Kept
kept seen = record {
  room = unlogged seen;
  most = backlog_size (cast_in seen.battle);
  backlog = last_of (backlog_size (cast_in seen.battle)) (logged_lines seen.log);
}

-- at the opening
abbrev pub kept_opened : Opening → Kept
kept_opened opening = kept (seen_opened opening)

-- after an entry
abbrev pub kept_after : Kept → Entry → Kept
kept_after room entry = record {
  room = state_after room.room entry;
  most = room.most;
  backlog = last_of room.most (room.backlog ++ logged_in (kept_of (record_in room.room) entry));
}
