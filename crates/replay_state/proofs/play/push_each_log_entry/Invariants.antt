use Rattle.std.proofs.Common.{◌≡◌, ◌++◌, drop, string_bytes, Some}
use Rattle.replay_state.specs.Houses.{next_message}
use Rattle.replay_state.specs.Transcript.{printed, with_id}
use Rattle.replay_state.specs.Tables.{each_of}
use Rattle.replay_state.proofs.play.push_each_log_entry.Given as goal

abbrev pub invariant-loop-conn : goal.invariant-loop-conn
invariant-loop-conn l =
    string_bytes l.out ++ each_of (λ conn. printed conn (with_id (Some l.room.room.id) (next_message conn l.room l.log_entry))) l.count l.last (drop l.conn-index l.conns)
    ≡ string_bytes l.fn.out ++ each_of (λ conn. printed conn (with_id (Some l.room.room.id) (next_message conn l.room l.log_entry))) l.count 0 l.conns
