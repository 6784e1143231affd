use Rattle.std.proofs.Common.{◌≡◌, ◌++◌, drop, string_bytes, None}
use Rattle.ps_hall.specs.Halls as halls
use Rattle.replay_state.specs.Transcript.{printed, with_id}
use Rattle.replay_state.specs.Tables.{each_of}
use Rattle.replay_state.proofs.play.push_each_told.Given as goal

abbrev pub invariant-loop-conn : goal.invariant-loop-conn
invariant-loop-conn l =
    string_bytes l.out ++ each_of (λ conn. printed conn (with_id None (halls.message_of conn l.notices))) l.count l.last (drop l.conn-index l.conns)
    ≡ string_bytes l.fn.out ++ each_of (λ conn. printed conn (with_id None (halls.message_of conn l.notices))) l.count 0 l.conns
