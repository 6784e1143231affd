use Rattle.std.proofs.Common.{◌≡◌, drop}
use Rattle.ps_valid.specs.TeamRows.{has_species}
use Rattle.ps_valid.proofs.team_rows.has_species.Given as goal

abbrev pub invariant-loop-set : goal.invariant-loop-set
invariant-loop-set l = has_species l.dex l.number (drop l.set-index l.sets) ≡ has_species l.dex l.number l.sets
