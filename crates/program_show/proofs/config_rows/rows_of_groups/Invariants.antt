use Rattle.std.proofs.Common.{◌≡◌, ◌++◌, drop}
use Rattle.program_show.specs.ConfigRows.{group_rows}
use Rattle.program_show.proofs.config_rows.rows_of_groups.Given as goal

abbrev pub invariant-loop-rank : goal.invariant-loop-rank
invariant-loop-rank l = l.rows.items ++ group_rows l.groups l.rank (drop l.rank l.list) ≡ group_rows l.groups 0 l.list
