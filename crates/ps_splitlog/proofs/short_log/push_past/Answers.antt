use Rattle.std.proofs.Common.{◌≡◌, ◌<◌, ◌∙◌, ◌-◌, ◌+◌, ◌++◌, ◌∷◌, [], List, ℕ, length, take, drop, sym, ap, arith}
use Rattle.std.specs.List.{filter}
use Rattle.ps_splitlog.specs.declared.stored.Stored.{Stored}
use Rattle.ps_splitlog.specs.Lines.{is_logged_line, shown_lines}
use Rattle.ps_splitlog.proofs.ShortLemmas.{line_more, past_more, left_more}
use Rattle.ps_splitlog.proofs.short_log.push_past.Goals as goal

pub loop-i-preserved : goal.loop-i-preserved
loop-i-preserved c =
    let i : ℕ = c.loop-i.i in
    let lines : List Stored = c.args.lines.now in
    let x : Stored = c.index-lines-i.result in
    let lt : i < length lines = omega arith in
    let more : filter is_logged_line (take (i + 1) lines) ≡ filter is_logged_line (take i lines) ++ filter is_logged_line (x ∷ []) =
    line_more lines i x lt ∙ ap (λ (y : Stored). filter is_logged_line (take i lines) ++ filter is_logged_line (y ∷ [])) (sym c.index-lines-i.is) in (
      past_more c.args.conn c.args.role c.args.skip c.loop-i.left (filter is_logged_line (take i lines)) (filter is_logged_line (x ∷ [])) c.args.texts.now.items c.loop-i.texts.items c.push_or_skip.new.texts.items c.loop-i.invariant.1 c.loop-i.invariant.0 c.in_ok-left.ensures.text
          ∙ ap (λ (ls : List Stored). c.args.texts.now.items ++ shown_lines c.args.conn c.args.role (drop c.args.skip ls)) (sym more),
      left_more c.args.skip c.loop-i.left c.in_ok-left.left (filter is_logged_line (take i lines)) (filter is_logged_line (x ∷ [])) c.loop-i.invariant.1 c.in_ok-left.ensures.left
          ∙ ap (λ (ls : List Stored). c.args.skip - length ls) (sym more),
    )
