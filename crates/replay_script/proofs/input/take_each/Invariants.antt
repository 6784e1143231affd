use Rattle.std.proofs.Common.{◌≡◌, ◌≤◌, ◌++◌, take, length, None}
use Rattle.replay_script.specs.Limits.{long_of, breaks_of}
use Rattle.replay_script.proofs.input.take_each.Given as goal

abbrev pub invariant-loop-b : goal.invariant-loop-b
invariant-loop-b l = record {
  items : l.bytes.items ≡ l.fn.bytes.items ++ take l.b-index l.piece;
  short : long_of l.bytes.items ≡ None;
  counted : l.breaks ≡ breaks_of l.bytes.items;
  few : l.breaks ≤ 200000;
  small : length l.bytes.items ≤ 16777216;
}
