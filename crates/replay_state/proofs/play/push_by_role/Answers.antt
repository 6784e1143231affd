use Rattle.std.proofs.Common.{◌++◌, string_bytes, List, ℕ, Some, ap, ◌∙◌}
use Rattle.replay_state.specs.Houses.{next_message}
use Rattle.replay_state.specs.Transcript.{printed, with_id}
use Rattle.replay_state.specs.Tables.{each_of}
use Rattle.replay_state.proofs.HearerLemmas.{all_heard}
use Rattle.replay_state.proofs.play.push_by_role.Goals as goal

pub returns : goal.returns
returns c =
    c.in_ok-push_each_log_entry.ensures
    ∙ ap (λ (conns : List ℕ). string_bytes c.args.out.now ++ each_of (λ conn. printed conn (with_id (Some c.args.room.now.room.id) (next_message conn c.args.room.now c.args.log_entry.now))) c.args.count 0 conns) c.as_slice.ensures.value
    ∙ ap (λ (text : List ℕ). string_bytes c.args.out.now ++ text) (all_heard c.args.room.now c.args.log_entry.now c.args.count c.in_ok-conns.conns.items c.in_ok-conns.ensures.all c.in_ok-conns.ensures.sorted)
