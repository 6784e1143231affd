use Rattle.std.proofs.Common.{◌≡◌, map, take}
use Rattle.program_show.specs.RulesetRows.{set_row}
use Rattle.program_show.proofs.ruleset_rows.rows_of_sets.Given as goal

abbrev pub invariant-loop-set : goal.invariant-loop-set
invariant-loop-set l = l.rows.items ≡ map (set_row l.formats) (take l.set-index l.sets)
