use Rattle.std.proofs.Common.{◌≡◌, map, take}
use Rattle.program_show.specs.ConfigRows.{user_row}
use Rattle.program_show.proofs.config_rows.user_rows.Given as goal

abbrev pub invariant-loop-user : goal.invariant-loop-user
invariant-loop-user l = l.rows.items ≡ map (user_row l.groups) (take l.user-index l.users)
