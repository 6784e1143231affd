use Rattle.std.proofs.Common.{◌≡◌, ◌≤◌, ◌-◌, length, None, vec_len}
use Rattle.std.specs.Io.KnownBytes.{Consumes}
use Rattle.replay_script.specs.Limits.{long_of, breaks_of}
use Rattle.replay_script.proofs.input.read_input.Given as goal

abbrev pub invariant-loop-bytes : goal.invariant-loop-bytes
invariant-loop-bytes g l = record {
  took : Consumes (g.S.Source.left l.fn.source) (g.S.Source.left l.source) l.bytes.items;
  short : long_of l.bytes.items ≡ None;
  counted : l.breaks ≡ breaks_of l.bytes.items;
  few : l.breaks ≤ 200000;
  small : length l.bytes.items ≤ 16777216;
  later : g.S.Source.faults l.fn.source ≤ g.S.Source.faults l.source;
  buffer : length l.buf ≡ 4096;
}

abbrev pub decreases-loop-bytes : goal.decreases-loop-bytes
decreases-loop-bytes g l = 16777217 - vec_len l.bytes
