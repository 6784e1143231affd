use Rattle.std.proofs.Common.{◌++◌, List, ℕ, string_bytes, ap, ◌∙◌}
use Rattle.json.specs.Print.{quoted}
use Rattle.ps_hall.proofs.JsonLemmas.{five, one_got}
use Rattle.ps_hall.proofs.line.push_one_got.Goals as goal

pub returns : goal.returns
returns c =
    let first : List ℕ = string_bytes c.push_str.new.self in
    let second : List ℕ = string_bytes c.push_str-2.new.self in
    five _ _ _ _ _ _ _ _ _ _ _ _ c.in_ok-push_str.ensures.bytes
    (c.in_ok-push_quoted.ensures ∙ ap (λ (text : List ℕ). first ++ quoted text) c.as_str.ensures.value)
    c.in_ok-push_str-2.ensures.bytes
    (c.in_ok-push_quoted-2.ensures ∙ ap (λ (text : List ℕ). second ++ quoted text) c.as_str-2.ensures.value)
    c.in_ok-push_str-3.ensures.bytes (one_got c.args.asked.now)
