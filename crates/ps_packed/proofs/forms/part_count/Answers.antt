use Rattle.std.proofs.Common.{true, false, eq-eqb, arith}
use Rattle.std.proofs.lemmas.Bool.{ne_eqb}
use Rattle.ps_packed.proofs.Splits.{pieces_at}
use Rattle.ps_packed.proofs.forms.part_count.Goals as goal
use Rattle.ps_packed.proofs.forms.part_count.Goals.{then-c-eq44, else-c-eq44}

pub loop-c-preserved : goal.loop-c-preserved
loop-c-preserved c = elim c.if-c-eq44.branch [
  | then-c-eq44 w ↦ (let more = pieces_at 44 c.args.word.now c.loop-c.c-index c.c-item.result true c.loop-c-test.true c.c-item.is (eq-eqb _ _ w.if-c-eq44.true) in
      record { few = omega (arith, w.count-is, c.loop-c.invariant.few); so_far = omega (arith, w.count-is, more, c.loop-c.invariant.so_far) })
  | else-c-eq44 w ↦ (let same = pieces_at 44 c.args.word.now c.loop-c.c-index c.c-item.result false c.loop-c-test.true c.c-item.is (ne_eqb _ _ w.if-c-eq44.false) in
      record { few = omega (arith, w.count-is, c.loop-c.invariant.few); so_far = omega (arith, w.count-is, same, c.loop-c.invariant.so_far) })
]
