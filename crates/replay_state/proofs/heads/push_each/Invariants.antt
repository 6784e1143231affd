use Rattle.std.proofs.Common.{◌≡◌, ◌++◌, drop, string_bytes}
use Rattle.replay_state.specs.Heads.{each_headed}
use Rattle.replay_state.proofs.heads.push_each.Given as goal

abbrev pub invariant-loop-head : goal.invariant-loop-head
invariant-loop-head l =
    string_bytes l.out ++ each_headed l.end l.count l.last (drop l.head-index l.list)
    ≡ string_bytes l.fn.out ++ each_headed l.end l.count 0 l.list
