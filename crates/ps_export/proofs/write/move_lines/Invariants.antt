use Rattle.std.proofs.Common.{◌≡◌, ◌++◌, map, drop}
use Rattle.ps_export.specs.Written.{move_line}
use Rattle.ps_export.proofs.write.move_lines.Given as goal

abbrev pub invariant-loop-id : goal.invariant-loop-id
invariant-loop-id l = l.lines.items ++ map move_line (drop l.id-index l.moves) ≡ l.initial.lines.items ++ map move_line l.moves
