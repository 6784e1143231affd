use Rattle.std.proofs.Common.{◌≡◌, find, drop}
use Rattle.ps_hall.specs.Lookups.{is_kept}
use Rattle.ps_hall.proofs.kept.find_kept.Given as goal

abbrev pub invariant-loop-kept : goal.invariant-loop-kept
invariant-loop-kept l = find (is_kept l.user l.with_id) (drop l.kept-index l.list) ≡ find (is_kept l.user l.with_id) l.list
