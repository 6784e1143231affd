use Rattle.std.proofs.Common.{◌∙◌, sym, ap, arith}
use Rattle.ps_chat.specs.Lookups.{has_id}
use Rattle.ps_chat.proofs.FindLemmas.{index_here, none_yet}
use Rattle.ps_chat.proofs.members.index_of_id.Goals as goal

pub returns-then-has_id : goal.returns-then-has_id
returns-then-has_id c = sym (index_here (has_id c.args.id.now) c.args.members.now c.loop-i.i c.index-members-i.result (omega arith) c.loop-i.invariant (ap (has_id c.args.id.now) (sym c.index-members-i.is) ∙ sym c.has_id.ensures ∙ c.if-has_id.true))

pub loop-i-preserved : goal.loop-i-preserved
loop-i-preserved c = none_yet (has_id c.args.id.now) c.args.members.now c.loop-i.i c.index-members-i.result (omega arith) c.loop-i.invariant (ap (has_id c.args.id.now) (sym c.index-members-i.is) ∙ sym c.has_id.ensures ∙ c.if-has_id.false)
