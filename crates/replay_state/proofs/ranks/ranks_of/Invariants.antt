use Rattle.std.proofs.Common.{◌≡◌, drop}
use Rattle.replay_state.specs.Setup.{ranks_from, ranks_of}
use Rattle.replay_state.proofs.ranks.ranks_of.Given as goal

abbrev pub invariant-loop-item : goal.invariant-loop-item
invariant-loop-item l = ranks_from l.groups l.ranks (drop l.item-index l.items) ≡ ranks_of l.groups l.items
