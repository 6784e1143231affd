use Rattle.std.proofs.Common.{◌<◌, ◌∷◌, [], length, arith}
use Rattle.json.specs.Token.{end_object}
use Rattle.file_help.specs.Pages.{section_tokens}
use Rattle.file_help.proofs.TokenLemmas.{next_tokens}
use Rattle.file_help.proofs.page.write_sections.Goals as goal

pub loop-section-preserved : goal.loop-section-preserved
loop-section-preserved c =
    let lt : c.loop-section.section-index < length c.args.sections.now = omega arith in
    next_tokens section_tokens (end_object ∷ []) c.args.sections.now c.loop-section.section-index c.section-item.result
    c.loop-section.line c.write_section.new.line _ lt c.section-item.is c.in_ok-write_section.ensures c.loop-section.invariant
