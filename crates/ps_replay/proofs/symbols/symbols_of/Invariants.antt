use Rattle.std.proofs.Common.{◌≡◌, take}
use Rattle.ps_replay.specs.Outcomes.{symbols_of}
use Rattle.ps_replay.proofs.symbols.symbols_of.Given as goal

abbrev pub invariant-loop-rank : goal.invariant-loop-rank
invariant-loop-rank l = l.symbols.items ≡ take l.rank (symbols_of l.groups)
