use Rattle.std.proofs.Common.{◌≡◌, ◌++◌, drop}
use Rattle.program_show.specs.FormatRows.{banned_species}
use Rattle.program_show.proofs.format_rows.banned_species.Given as goal

abbrev pub invariant-loop-id : goal.invariant-loop-id
invariant-loop-id l = l.numbers.items ++ banned_species l.dex (drop l.id-index l.bans) ≡ banned_species l.dex l.bans
