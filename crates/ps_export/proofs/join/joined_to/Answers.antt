use Rattle.std.proofs.Common.{List, ℕ, ◌++◌, string_bytes, ap, ◌∙◌}
use Rattle.ps_packed.proofs.Joins.{joins}
use Rattle.ps_export.proofs.join.joined_to.Goals as goal

pub loop-text-preserved : goal.loop-text-preserved
loop-text-preserved c =
    let mid : List ℕ = string_bytes c.push.new.self in
    joins c.args.between c.args.first.now c.args.rest.now c.loop-text.text-index c.text-item.result (string_bytes c.loop-text.whole) mid (string_bytes c.push_str.new.self)
    c.requires c.loop-text-test.true c.text-item.is c.loop-text.invariant c.in_ok-push.ensures.bytes
    (c.in_ok-push_str.ensures.bytes ∙ ap (λ (u : List ℕ). mid ++ u) c.as_str-in-loop-text.ensures.value)
