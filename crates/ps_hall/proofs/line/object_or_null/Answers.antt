use Rattle.std.proofs.Common.{true≢false, sym, ◌∙◌}
use Rattle.serde_json.proofs.Views.{view-Object}
use Rattle.ps_hall.proofs.JsonLemmas.{some_members}
use Rattle.ps_hall.proofs.line.object_or_null.Goals as goal

pub returns : goal.returns
returns c = view-Object c.args.members ∙ sym (some_members c.args.members.entries (λ e. true≢false (sym (c.is_empty.ensures.1 e) ∙ c.if-is_empty.false)))
