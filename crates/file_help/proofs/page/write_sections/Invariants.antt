use Rattle.std.proofs.Common.{◌≡◌, ◌++◌, ◌∷◌, [], drop}
use Rattle.std.specs.List.{flat_map}
use Rattle.json.specs.Token.{end_object}
use Rattle.json_text.specs.Lines.{with_tokens}
use Rattle.file_help.specs.Pages.{section_tokens}
use Rattle.file_help.proofs.page.write_sections.Given as goal

abbrev pub invariant-loop-section : goal.invariant-loop-section
invariant-loop-section l =
    with_tokens (flat_map section_tokens (drop l.section-index l.sections) ++ end_object ∷ []) l.line
    ≡ with_tokens (flat_map section_tokens l.sections ++ end_object ∷ []) l.fn.line
