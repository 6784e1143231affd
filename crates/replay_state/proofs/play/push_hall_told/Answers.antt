use Rattle.std.proofs.Common.{◌++◌, string_bytes, List, ℕ, None, ap, ◌∙◌}
use Rattle.ps_hall.specs.Halls as halls
use Rattle.replay_state.specs.Transcript.{printed, with_id}
use Rattle.replay_state.specs.Tables.{each_of}
use Rattle.replay_state.proofs.HearerLemmas.{all_told}
use Rattle.replay_state.proofs.play.push_hall_told.Goals as goal

pub returns : goal.returns
returns c =
    c.in_ok-push_each_told.ensures
    ∙ ap (λ (conns : List ℕ). string_bytes c.args.out.now ++ each_of (λ conn. printed conn (with_id None (halls.message_of conn c.args.notices.now))) c.args.count 0 conns) c.as_slice.ensures.value
    ∙ ap (λ (text : List ℕ). string_bytes c.args.out.now ++ text) (all_told c.args.notices.now c.args.count c.in_ok-conns.conns.items c.in_ok-conns.ensures.all c.in_ok-conns.ensures.sorted)
