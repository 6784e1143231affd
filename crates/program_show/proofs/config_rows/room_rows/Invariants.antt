use Rattle.std.proofs.Common.{◌≡◌, map, take}
use Rattle.program_show.specs.ConfigRows.{room_row}
use Rattle.program_show.proofs.config_rows.room_rows.Given as goal

abbrev pub invariant-loop-room : goal.invariant-loop-room
invariant-loop-room l = l.rows.items ≡ map room_row (take l.room-index l.rooms)
