use Rattle.std.proofs.Common.{◌≡◌, ◌≤◌, ◌-◌, string_bytes}
use Rattle.replay_state.specs.Entries.{Run}
use Rattle.replay_state.specs.Tables.{desk_of}
use Rattle.ps_replay.proofs.MatchLemmas.{Reached}
use Rattle.ps_replay.proofs.matches.play_matches.Given as goal

abbrev pub invariant-loop-line : goal.invariant-loop-line
invariant-loop-line g l = record {
  reached : (r : Run) → l.fn.table ≡ desk_of r → Reached l.most l.format l.fn.tour l.fn.table r (g.K.Sink.written l.fn.out) (g.K.Sink.written l.out) (l.most - l._line) l.tour l.table (string_bytes l.pending.text);
  later : g.K.Sink.faults l.fn.out ≤ g.K.Sink.faults l.out;
}
