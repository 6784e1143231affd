use Rattle.std.proofs.Common.{◌++◌, List, ℕ, string_bytes, ap, sym, ◌∙◌}
use Rattle.ps_hall.proofs.JsonLemmas.{none_got}
use Rattle.ps_hall.proofs.line.push_got.Goals as goal

pub returns-in_ok-push_str-in-empty : goal.returns-in_ok-push_str-in-empty
returns-in_ok-push_str-in-empty c =
    c.in_ok-push_str-in-empty.ensures.bytes ∙ ap (λ (text : List ℕ). string_bytes c.args.out.now ++ text) (sym (none_got c.args.got.now c.in-empty.len_below))
