use Rattle.std.proofs.Common.{◌≡◌, ◌<◌, ◌∙◌, ◌-◌, ◌+◌, ◌++◌, List, ℕ, length, take, drop, sym, ap, arith}
use Rattle.std.specs.List.{filter}
use Rattle.ps_splitlog.specs.declared.stored.Stored.{Stored}
use Rattle.ps_splitlog.specs.declared.entry.LogEntry.{LogEntry}
use Rattle.ps_splitlog.specs.Lines.{is_logged_line, shown_lines}
use Rattle.ps_splitlog.specs.Entries.{logged_in, logged_lines}
use Rattle.ps_splitlog.proofs.ShortLemmas.{lines_more, past_more, left_more}
use Rattle.ps_splitlog.proofs.short_log.push_all_past.Goals as goal

pub loop-i-preserved : goal.loop-i-preserved
loop-i-preserved c =
    let i : ℕ = c.loop-i.i in
    let log : List LogEntry = c.args.kept.now.items in
    let x : LogEntry = c.index.result.now in
    let lt : i < length log = omega (arith, c.requires, c.args.kept.now.ok.0) in
    let next : List Stored = filter is_logged_line c.as_slice.result.now in
    let more : logged_lines (take (i + 1) log) ≡ logged_lines (take i log) ++ next =
    lines_more log i x lt ∙ ap (λ (y : LogEntry). logged_lines (take i log) ++ logged_in y) (sym c.index.ensures) ∙ ap (λ (ls : List Stored). logged_lines (take i log) ++ filter is_logged_line ls) (sym c.as_slice.ensures) in (
      past_more c.args.conn c.args.role c.args.skip c.loop-i.left (logged_lines (take i log)) next c.args.texts.now.items c.loop-i.texts.items c.push_past.new.texts.items c.loop-i.invariant.1 c.loop-i.invariant.0 c.in_ok-left.ensures.text
          ∙ ap (λ (ls : List Stored). c.args.texts.now.items ++ shown_lines c.args.conn c.args.role (drop c.args.skip ls)) (sym more),
      left_more c.args.skip c.loop-i.left c.in_ok-left.left (logged_lines (take i log)) next c.loop-i.invariant.1 c.in_ok-left.ensures.left
          ∙ ap (λ (ls : List Stored). c.args.skip - length ls) (sym more),
    )
