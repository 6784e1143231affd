use Rattle.std.proofs.Common.{List, [], ◌∷◌, ◌++◌, codes, ap, ◌∙◌}
use Rattle.file_help.specs.declared.page.Row.{Row}
use Rattle.program_show.specs.Summary.{section}
use Rattle.program_show.proofs.summary.push_factors.Goals as goal

pub returns : goal.returns
returns c =
    c.in_ok-push_section.ensures
    ∙ ap (λ (rows : List Row). c.args.sections.now.items ++ section (codes "Factors in tenths") rows ∷ []) c.in_ok-rows.ensures
