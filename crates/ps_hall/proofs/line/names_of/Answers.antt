use Rattle.std.proofs.Common.{List, ℕ, ◌++◌, string_bytes, ap, ◌∙◌}
use Rattle.ps_hall.proofs.FormatLemmas.{next_name}
use Rattle.ps_hall.proofs.line.names_of.Goals as goal

pub loop-format-preserved : goal.loop-format-preserved
loop-format-preserved c =
    let mid : List ℕ = string_bytes c.push.new.self in
    next_name c.args.first.now c.args.rest.now c.loop-format.format-index c.format-item.result (string_bytes c.loop-format.names) mid (string_bytes c.push_str.new.self)
    c.loop-format-test.true c.format-item.is c.loop-format.invariant c.in_ok-push.ensures.bytes
    (c.in_ok-push_str.ensures.bytes ∙ ap (λ (u : List ℕ). mid ++ u) c.as_str-in-loop-format.ensures.value)
