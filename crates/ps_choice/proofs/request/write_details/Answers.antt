use Rattle.std.proofs.Common.{List, ℕ, ◌++◌, codes, ap, ◌∙◌, string_bytes}
use Rattle.json.specs.Print.{escape_byte, quoted}
use Rattle.ps_choice.specs.Shown.{details}
use Rattle.ps_choice.proofs.request.write_details.Goals as goal

pub returns : goal.returns
unfolding escape_byte
returns c =
    let shown = details c.args.dex.now.species c.args.m.now in
    c.in_ok-push_text.ensures
    ∙ ap (λ (x : List ℕ). string_bytes c.args.line.now ++ (codes ",\"details\":" ++ quoted x))
    (c.as_str.ensures.value ∙ c.in_ok-push_details_of.ensures ∙ ap (λ (x : List ℕ). x ++ shown) c.clear.ensures.bytes)
