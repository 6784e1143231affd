use Rattle.std.proofs.Common.{◌≡◌, map, drop}
use Rattle.ps_export.specs.Sheets.{start, with_lines}
use Rattle.ps_export.proofs.read.read_lines.Given as goal

abbrev pub invariant-loop-line : goal.invariant-loop-line
invariant-loop-line l = with_lines l.sheet (map (λ x. x.now) (drop l.line-index l.pieces)) ≡ with_lines start (map (λ x. x.now) l.pieces)
