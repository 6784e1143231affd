use Rattle.std.proofs.Common.{List, ℕ, ◌++◌, string_bytes, ap, ◌∙◌}
use Rattle.replay_drill.specs.Fights.{id_at}
use Rattle.replay_drill.proofs.TeamLemmas.{next_joined}
use Rattle.replay_drill.proofs.fight.ids_from.Goals as goal

pub loop-number-preserved : goal.loop-number-preserved
loop-number-preserved c =
    let mid : List ℕ = string_bytes c.push.new.self in
    next_joined (id_at c.args.moves.now) c.args.first c.args.rest.now c.loop-number.number-index _ (string_bytes c.loop-number.ids) mid (string_bytes c.push_str.new.self)
    c.loop-number-test.true c.loop-number.invariant c.in_ok-push.ensures.bytes
    (c.in_ok-push_str.ensures.bytes ∙ ap (λ (u : List ℕ). mid ++ u) c.id_at-in-loop-number.ensures)
