use Rattle.std.proofs.Common.{◌++◌, List, ℕ, map, ap, ◌∙◌}
use Rattle.replay_state.specs.Heads.{head_of}
use Rattle.replay_state.specs.declared.heads.Head.{Head}
use Rattle.replay_state.proofs.HearerLemmas.{made}
use Rattle.replay_state.proofs.heads.renew.Goals as goal

pub returns : goal.returns
returns c =
    made c.args.room.now c.push_all.new.list.items c.in_ok-conns.conns.items
    (c.in_ok-push_all.ensures
    ∙ ap (λ (front : List Head). front ++ map (head_of c.id.result.now) c.as_slice.result.now) c.clear.ensures.items
    ∙ ap (λ (id : List ℕ). map (head_of id) c.as_slice.result.now) c.id.ensures
    ∙ ap (map (head_of c.args.room.now.room.id)) c.as_slice.ensures.value)
    c.in_ok-conns.ensures.all c.in_ok-conns.ensures.sorted
