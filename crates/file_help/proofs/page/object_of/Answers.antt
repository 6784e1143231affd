use Rattle.std.proofs.Common.{string_bytes}
use Rattle.file_help.proofs.TokenLemmas.{printed}
use Rattle.file_help.proofs.page.object_of.Goals as goal

pub returns : goal.returns
returns c =
    printed c.args.sections.now c.in_ok-line.line c.open_object.new.self c.write_sections.new.line (string_bytes c.into_string.result)
    c.in_ok-line.ensures c.in_ok-open_object.ensures c.in_ok-write_sections.ensures c.into_string.ensures.bytes
