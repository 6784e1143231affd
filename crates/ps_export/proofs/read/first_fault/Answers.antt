use Rattle.std.proofs.Common.{◌≡◌, ℕ, ◌+◌, ◌<◌, length, ap, ◌∙◌, arith}
use Rattle.ps_export.specs.Export.{limit_of}
use Rattle.ps_export.specs.Lines.{lines}
use Rattle.ps_export.proofs.ReadLemmas.{walk_next, fault_limit, fault_line, fault_end, line_at, count_of, if_none, if_some}
use Rattle.ps_export.proofs.read.first_fault.Goals as goal

pub returns-in-None : goal.returns-in-None
returns-in-None c =
    let lt : c.loop-line.line-index < length (lines c.args.text.now) = omega (arith, count_of c.args.text.now c.args.pieces.now c.requires, c.loop-line-test.true) in
    rw c.loop-line.invariant.0 (fault_line c.args.text.now c.loop-line.line-index c.loop-line.sheet _ lt (line_at c.args.text.now c.args.pieces.now c.loop-line.line-index _ c.requires c.loop-line-test.true) c.loop-line.invariant.1 (if_none _ _ c.in-None.is c.in_ok-stood.ensures.none))

pub loop-line-preserved : goal.loop-line-preserved
loop-line-preserved c =
    let lt : c.loop-line.line-index < length (lines c.args.text.now) = omega (arith, count_of c.args.text.now c.args.pieces.now c.requires, c.loop-line-test.true) in
    let limit = c.limit_of-limit.ensures ∙ ap limit_of c.as_bytes.ensures.value in
    let within : c.loop-line.line-index + 1 < limit_of c.args.text.now = omega (arith, c.if-number-limit.false, limit, c.loop-line.invariant.0) in
    let more = if_some _ _ c.in-Some.next c.in-Some.is c.in_ok-stood.ensures.some in
    (ap (λ (n : ℕ). n + 1) c.loop-line.invariant.0, walk_next c.args.text.now c.loop-line.line-index c.loop-line.sheet c.in-Some.next _ lt (line_at c.args.text.now c.args.pieces.now c.loop-line.line-index _ c.requires c.loop-line-test.true) c.loop-line.invariant.1 within more.0 more.1)
