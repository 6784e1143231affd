use Rattle.std.proofs.Common.{drop}
use Rattle.ps_splitlog.specs.Firsts.{is_given}
use Rattle.ps_splitlog.proofs.FirstLemmas.{IsNoting}
use Rattle.ps_splitlog.proofs.firsts.note_roles.Given as goal

abbrev pub invariant-loop-change : goal.invariant-loop-change
invariant-loop-change l = IsNoting is_given l.entry l.fn.firsts l.firsts l.roles (drop l.change-index l.roles)
