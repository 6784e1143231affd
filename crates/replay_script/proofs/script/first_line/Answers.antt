use Rattle.std.proofs.Common.{ℕ, ◌+◌, ◌-◌, length, take, drop, arith, ap, sym, ◌∙◌, List, ◌∷◌}
use Rattle.std.specs.Str.Lines.{lines}
use Rattle.replay_script.proofs.LineLemmas.{line_at, last_line}
use Rattle.replay_script.proofs.script.first_line.Goals as goal

pub returns-then-end-bytes-clause-lines : goal.returns-then-end-bytes-clause-lines
returns-then-end-bytes-clause-lines c =
    let bs = c.args.bytes.now in
    let i = c.newline-end.result in
    line_at bs i c.if-end-bytes.true (c.newline-end.ensures.found c.if-end-bytes.true) c.newline-end.ensures.before
    ∙ ap (λ (x : List ℕ). x ∷ lines (take (length bs - (i + 1)) (drop (i + 1) bs))) (sym c.without_return.ensures)

pub returns-else-end-bytes-clause-lines : goal.returns-else-end-bytes-clause-lines
returns-else-end-bytes-clause-lines c =
    last_line c.args.bytes.now c.requires (λ k h. c.newline-end.ensures.before k (omega (arith, c.if-end-bytes.false)))
