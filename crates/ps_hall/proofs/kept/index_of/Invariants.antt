use Rattle.std.proofs.Common.{◌≡◌, take, drop, ◌++◌}
use Rattle.ps_hall.specs.Lookups.{without_kept}
use Rattle.ps_hall.proofs.kept.index_of.Given as goal

abbrev pub invariant-loop-i : goal.invariant-loop-i
invariant-loop-i l = take l.i l.list ++ without_kept l.user l.with_id (drop l.i l.list) ≡ without_kept l.user l.with_id l.list
