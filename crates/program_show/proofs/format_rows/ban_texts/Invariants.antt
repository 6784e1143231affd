use Rattle.std.proofs.Common.{◌≡◌, map, take}
use Rattle.program_show.specs.FormatRows.{ban_text}
use Rattle.program_show.proofs.format_rows.ban_texts.Given as goal

abbrev pub invariant-loop-id : goal.invariant-loop-id
invariant-loop-id l = l.texts.items ≡ map (ban_text l.dex) (take l.id-index l.bans)
