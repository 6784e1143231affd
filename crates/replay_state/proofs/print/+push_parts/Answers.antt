use Rattle.std.proofs.Common.{◌∷◌, ◌++◌, List, ℕ, codes, string_bytes, append_assoc, sym, ap, ◌∙◌}
use Rattle.replay_state.specs.Transcript.{line_behind}
use Rattle.replay_state.proofs.PrintLemmas.{parted_line}
use Rattle.replay_state.proofs.print.+push_parts.Goals as goal

pub returns-in_ok-push_parts-in-Some : goal.returns-in_ok-push_parts-in-Some
returns-in_ok-push_parts-in-Some t c =
    let digits = c.args.digits.now in
    let part = c.in-Some.part.now in
    let rest = c.in-Some.rest.now in
    let before = string_bytes c.args.out.now in
    c.in_ok-push_parts-in-Some.ensures
    ∙ ap (λ (text : List ℕ). text ++ line_behind digits rest) c.in_ok-push_part-in-Some.ensures
    ∙ append_assoc before (part ++ (10 ∷ digits ++ codes ". ")) (line_behind digits rest)
    ∙ ap (λ (text : List ℕ). before ++ text) (sym (parted_line digits c.args.line.now part rest c.in-Some.ensures.found c.in-Some.ensures.first))
