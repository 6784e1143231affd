use Rattle.std.proofs.Common.{◌≡◌, ◌≤◌, drop}
use Rattle.replay_script.specs.Limits.{breaks_from, breaks_of}
use Rattle.replay_script.proofs.input.breaks_in.Given as goal

abbrev pub invariant-loop-b : goal.invariant-loop-b
invariant-loop-b l = record {
  count : breaks_from l.breaks (drop l.b-index l.piece) ≡ breaks_of l.piece;
  few : l.breaks ≤ l.b-index;
}
