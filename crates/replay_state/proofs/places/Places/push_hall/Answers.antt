use Rattle.std.proofs.Common.{◌++◌, string_bytes, List, ℕ, ap, ◌∙◌}
use Rattle.replay_state.proofs.PlayLemmas.{hall_text}
use Rattle.replay_state.proofs.places.Places.push_hall.Goals as goal

pub returns-in-None-clause-text : goal.returns-in-None-clause-text
returns-in-None-clause-text c =
    rw (← c.self.view_is) (c.in_ok-push_applied.ensures.text ∙ ap (λ (x : List ℕ). string_bytes c.args.out.now.text ++ x) (hall_text c.args.conns c.self.inside.hall c.args.entry.now c.as_slice.result.now (c.as_slice.ensures ∙ c.in_ok-made.ensures.notices)))

pub returns-in_ok-begin-in-Some-clause-text : goal.returns-in_ok-begin-in-Some-clause-text
returns-in_ok-begin-in-Some-clause-text c =
    rw (← c.self.view_is) (c.in_ok-push_applied.ensures.text ∙ ap (λ (x : List ℕ). string_bytes c.args.out.now.text ++ x) (hall_text c.args.conns c.self.inside.hall c.args.entry.now c.as_slice.result.now (c.as_slice.ensures ∙ c.in_ok-made.ensures.notices)))
