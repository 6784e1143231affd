use Rattle.std.proofs.Common.{◌≡◌, ◌∙◌, ◌++◌, List, ℕ, length, take, drop, ap, append_assoc, arith}
use Rattle.ps_splitlog.specs.declared.stored.Stored.{Stored}
use Rattle.ps_splitlog.specs.Lines.{shown_lines}
use Rattle.ps_splitlog.specs.Entries.{logged_lines}
use Rattle.ps_splitlog.specs.Shorts.{first_of, skipped_of}
use Rattle.ps_splitlog.proofs.ShortLemmas.{recent}
use Rattle.ps_splitlog.proofs.short_log.push_recent.Goals as goal

pub returns : goal.returns
returns c =
    let backlog : List Stored = c.args.backlog.now.items in
    let more : List Stored = logged_lines (take c.args.upto c.args.kept.now.items) in
    let many : c.len.result ≡ length backlog = omega (arith, c.len.ensures, c.args.backlog.now.ok.0) in
    let from : c.first_of-from.result ≡ first_of c.args.size (length backlog) (length more) =
    c.first_of-from.ensures ∙ ap (λ n. first_of c.args.size n c.in_ok-more.more) many ∙ ap (first_of c.args.size (length backlog)) c.in_ok-more.ensures in
    let skip : c.skipped_of.result ≡ skipped_of c.args.size (length more) = c.skipped_of.ensures ∙ ap (skipped_of c.args.size) c.in_ok-more.ensures in
    c.in_ok-push_all_past.ensures
    ∙ ap (λ (texts : List (List ℕ)). texts ++ shown_lines c.args.conn c.args.role (drop c.skipped_of.result more)) c.in_ok-push_shown_from.ensures
    ∙ append_assoc c.args.texts.now.items (shown_lines c.args.conn c.args.role (drop c.first_of-from.result backlog)) (shown_lines c.args.conn c.args.role (drop c.skipped_of.result more))
    ∙ ap (λ (texts : List (List ℕ)). c.args.texts.now.items ++ texts) (recent c.args.conn c.args.role c.args.size c.first_of-from.result c.skipped_of.result backlog more from skip)
