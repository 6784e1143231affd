use Rattle.std.proofs.Common.{◌≡◌, [], take, drop}
use Rattle.ps_valid.specs.TeamRows.{each_later}
use Rattle.ps_valid.proofs.team_rows.each_later.Given as goal

abbrev pub invariant-loop-i : goal.invariant-loop-i
invariant-loop-i l = each_later l.dex l.rules (take l.i l.sets) (drop l.i l.sets) ≡ each_later l.dex l.rules [] l.sets
