use Rattle.std.proofs.Common.{◌≡◌, ◌++◌, string_bytes, drop}
use Rattle.std.specs.List.{flat_map}
use Rattle.file_help.specs.Pages.{row_text}
use Rattle.file_help.proofs.page.push_each.Given as goal

abbrev pub invariant-loop-row : goal.invariant-loop-row
invariant-loop-row l =
    string_bytes l.out ++ flat_map row_text (drop l.row-index l.rows) ≡ string_bytes l.initial.out ++ flat_map row_text l.rows
