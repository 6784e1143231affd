use Rattle.std.proofs.Common.{◌≡◌, ◌++◌, string_bytes, drop}
use Rattle.std.specs.List.{flat_map}
use Rattle.file_help.specs.Pages.{section_text, text_page}
use Rattle.file_help.proofs.page.text_page.Given as goal

abbrev pub invariant-loop-section : goal.invariant-loop-section
invariant-loop-section l = string_bytes l.out ++ flat_map section_text (drop l.section-index l.sections) ≡ text_page l.sections
