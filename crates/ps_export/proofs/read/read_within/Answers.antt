use Rattle.std.proofs.Common.{sym, ap, ◌∙◌}
use Rattle.ps_export.specs.Sheets.{start, with_lines}
use Rattle.ps_export.proofs.ReadLemmas.{within_none}
use Rattle.ps_export.proofs.read.read_within.Goals as goal

pub returns-in-Some-clause-none : goal.returns-in-Some-clause-none
returns-in-Some-clause-none c = within_none c.args.text.now c.in-Some.sheet c.team_of.result (ap (with_lines start) (sym c.requires) ∙ sym c.in_ok-read_lines.ensures ∙ c.in-Some.is) c.team_of.ensures.none
