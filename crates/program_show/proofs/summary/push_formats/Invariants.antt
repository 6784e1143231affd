use Rattle.std.proofs.Common.{◌≡◌, ◌++◌, map, drop}
use Rattle.program_show.specs.FormatRows.{format_section}
use Rattle.program_show.proofs.summary.push_formats.Given as goal

abbrev pub invariant-loop-format : goal.invariant-loop-format
invariant-loop-format l =
    l.sections.items ++ map (format_section l.dex) (drop l.format-index l.formats)
    ≡ l.initial.sections.items ++ map (format_section l.dex) l.formats
