use Rattle.std.proofs.Common.{◌++◌, List, ℕ, map, string_bytes, ap, ◌∙◌}
use Rattle.std.proofs.Common.{Option, Bor}
use Rattle.ps_pms.specs.declared.asked.Asked.{Asked}
use Rattle.ps_hall.specs.Lines.{made_text, got_text, challenge_line}
use Rattle.ps_hall.proofs.JsonLemmas.{five, challenge_text}
use Rattle.ps_hall.proofs.line.challenge_line.Goals as goal

pub returns : goal.returns
returns c =
    let asked : List Asked = map (λ x. x.now) c.args.asked.now in
    c.from_string.ensures
    ∙ five _ _ _ _ _ _ _ _ _ _ _ _ c.in_ok-push_str.ensures.bytes
    (c.in_ok-push_made.ensures ∙ ap (λ (made : Option Asked). string_bytes c.push_str.new.self ++ made_text made) c.made_by.ensures)
    c.in_ok-push_str-2.ensures.bytes
    (c.in_ok-push_got.ensures ∙ ap (λ (got : List Asked). string_bytes c.push_str-2.new.self ++ got_text got) (ap (λ (got : List (Bor Asked)). map (λ x. x.now) got) c.as_slice.ensures.value ∙ c.in_ok-got.ensures))
    c.in_ok-push_str-3.ensures.bytes (challenge_text asked c.args.id.now)
    ∙ ap (λ (text : List ℕ). text ++ challenge_line asked c.args.id.now) c.in_ok-line.ensures.bytes
