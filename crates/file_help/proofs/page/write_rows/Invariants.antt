use Rattle.std.proofs.Common.{◌≡◌, ◌++◌, ◌∷◌, [], drop}
use Rattle.std.specs.List.{flat_map}
use Rattle.json.specs.Token.{end_array}
use Rattle.json_text.specs.Lines.{with_tokens}
use Rattle.file_help.specs.Pages.{row_tokens}
use Rattle.file_help.proofs.page.write_rows.Given as goal

abbrev pub invariant-loop-row : goal.invariant-loop-row
invariant-loop-row l =
    with_tokens (flat_map row_tokens (drop l.row-index l.rows) ++ end_array ∷ []) l.line
    ≡ with_tokens (flat_map row_tokens l.rows ++ end_array ∷ []) l.fn.line
