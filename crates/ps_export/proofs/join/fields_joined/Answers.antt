use Rattle.std.proofs.Common.{◌∙◌}
use Rattle.ps_export.proofs.JoinLemmas.{joined_is}
use Rattle.ps_export.proofs.join.fields_joined.Goals as goal

pub returns : goal.returns
returns c = c.from_string.ensures ∙ c.in_ok-join.ensures.ok ∙ joined_is (λ x. x.now) 124 c.args.fields.now
