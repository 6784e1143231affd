use Rattle.std.proofs.Common.{◌∙◌, sym, arith}
use Rattle.ps_hall.proofs.KeptLemmas.{stops}
use Rattle.ps_hall.proofs.kept.index_of.Goals as goal

pub returns-then-is_kept-clause-some : goal.returns-then-is_kept-clause-some
returns-then-is_kept-clause-some c = stops c.args.user.now c.args.with_id.now c.args.list.now c.loop-i.i c.index-list-i.result (omega arith) c.index-list-i.is (sym c.is_kept.ensures ∙ c.if-is_kept.true) c.loop-i.invariant
