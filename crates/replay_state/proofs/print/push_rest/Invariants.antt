use Rattle.std.proofs.Common.{◌≡◌, ◌++◌, take, string_bytes}
use Rattle.std.specs.List.{flat_map}
use Rattle.replay_state.specs.Tables.{further_behind}
use Rattle.replay_state.proofs.print.push_rest.Given as goal

abbrev pub invariant-loop-line : goal.invariant-loop-line
invariant-loop-line l = string_bytes l.out ≡ string_bytes l.fn.out ++ flat_map (further_behind l.digits) (take l.line-index l.lines)
