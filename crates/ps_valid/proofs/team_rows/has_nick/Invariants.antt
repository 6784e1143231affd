use Rattle.std.proofs.Common.{◌≡◌, drop}
use Rattle.ps_valid.specs.TeamRows.{has_nick}
use Rattle.ps_valid.proofs.team_rows.has_nick.Given as goal

abbrev pub invariant-loop-set : goal.invariant-loop-set
invariant-loop-set l = has_nick l.nick (drop l.set-index l.sets) ≡ has_nick l.nick l.sets
