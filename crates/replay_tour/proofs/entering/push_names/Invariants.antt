use Rattle.std.proofs.Common.{◌≡◌, ◌++◌}
use Rattle.replay_tour.specs.Entrants.{each_line, name_line}
use Rattle.replay_tour.proofs.entering.push_names.Given as goal

abbrev pub invariant-loop-i : goal.invariant-loop-i
invariant-loop-i l = l.items.items ≡ l.fn.items.items ++ each_line (name_line l.config) l.i
