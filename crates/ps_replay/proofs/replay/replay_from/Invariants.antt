use Rattle.std.proofs.Common.{◌≡◌, ◌≤◌, drop, string_bytes}
use Rattle.replay_state.specs.Tables.{desk_after, text_from}
use Rattle.ps_replay.proofs.FlowLemmas.{Came}
use Rattle.ps_replay.proofs.replay.replay_from.Given as goal

abbrev pub invariant-loop-item : goal.invariant-loop-item
invariant-loop-item g l = record {
  came : Came (g.K.Sink.written l.fn.out) (g.K.Sink.written l.out) (text_from l.fn.table l.items) (string_bytes l.pending.text) l.table (drop l.item-index l.items);
  here : desk_after l.fn.table l.items ≡ desk_after l.table (drop l.item-index l.items);
  later : g.K.Sink.faults l.fn.out ≤ g.K.Sink.faults l.out;
}
