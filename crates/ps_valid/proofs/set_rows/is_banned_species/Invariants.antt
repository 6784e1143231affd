use Rattle.std.proofs.Common.{◌≡◌, drop}
use Rattle.ps_valid.specs.SetRows.{is_banned_species}
use Rattle.ps_valid.proofs.set_rows.is_banned_species.Given as goal

abbrev pub invariant-loop-ban : goal.invariant-loop-ban
invariant-loop-ban l = is_banned_species l.dex (drop l.ban-index l.bans) l.species ≡ is_banned_species l.dex l.bans l.species
