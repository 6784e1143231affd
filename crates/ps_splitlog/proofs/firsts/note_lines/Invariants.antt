use Rattle.std.proofs.Common.{drop}
use Rattle.ps_splitlog.specs.Firsts.{is_owner}
use Rattle.ps_splitlog.proofs.FirstLemmas.{IsNoting}
use Rattle.ps_splitlog.proofs.firsts.note_lines.Given as goal

abbrev pub invariant-loop-line : goal.invariant-loop-line
invariant-loop-line l = IsNoting is_owner l.entry l.fn.firsts l.firsts l.lines (drop l.line-index l.lines)
