use Rattle.std.proofs.Common.{◌<◌, ◌∷◌, [], length, arith}
use Rattle.json.specs.Token.{end_array}
use Rattle.file_help.specs.Pages.{row_tokens}
use Rattle.file_help.proofs.TokenLemmas.{next_tokens}
use Rattle.file_help.proofs.page.write_rows.Goals as goal

pub loop-row-preserved : goal.loop-row-preserved
loop-row-preserved c =
    let lt : c.loop-row.row-index < length c.args.rows.now = omega arith in
    next_tokens row_tokens (end_array ∷ []) c.args.rows.now c.loop-row.row-index c.row-item.result c.loop-row.line c.write_row.new.line
    _ lt c.row-item.is c.in_ok-write_row.ensures c.loop-row.invariant
