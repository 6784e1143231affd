use Rattle.std.proofs.Common.{◌≡◌, ◌++◌, length, take, drop}
use Rattle.ps_splitlog.specs.Indices.{line_indices_in}
use Rattle.ps_splitlog.proofs.index.push_line_indices.Given as goal

abbrev pub invariant-loop-line : goal.invariant-loop-line
invariant-loop-line l =
    (l.line_indices.items ++ line_indices_in l.entry l.line (drop l.line l.lines) ≡ l.fn.line_indices.items ++ line_indices_in l.entry 0 l.lines)
    × (take (length l.fn.line_indices.items) l.line_indices.items ≡ l.fn.line_indices.items)
