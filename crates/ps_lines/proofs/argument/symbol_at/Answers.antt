use Rattle.ps_lines.proofs.CharLemmas.{one_char, more_chars}
use Rattle.std.proofs.Common.{sym, ◌∙◌}
use Rattle.ps_lines.proofs.argument.symbol_at.Goals as goal

pub returns-in-None-next : goal.returns-in-None-next
returns-in-None-next c = one_char c.args.which c.args.text.now _ c.in-Some.symbol c.utf8.text (sym c.chars-chars.ensures.rest ∙ c.in-Some.ensures.steps.0) c.in-None-next.ensures.steps.0.0

pub returns-in-Some-next : goal.returns-in-Some-next
returns-in-Some-next c = more_chars c.args.which c.args.text.now _ _ c.in-Some.symbol c.in-Some-next.field-0 c.utf8.text (sym c.chars-chars.ensures.rest ∙ c.in-Some.ensures.steps.0) c.in-Some-next.ensures.steps.0
