use Rattle.std.proofs.Common.{◌≡◌, sym, ap, ◌∙◌, true, false, w32}
use Rattle.std.specs.FinMap.{insert, remove, contains_key}
use Rattle.std.proofs.lemmas.Int.{to_z-of_z}
use Rattle.std.proofs.lemmas.Bool.{not-true, not-false}
use Rattle.ps_ladder.specs.Ratings.{Ratings, rating}
use Rattle.ps_ladder.proofs.MapLemmas.{kept, undone, forgotten, has_put, keeps_put}
use Rattle.ps_ladder.proofs.scores.set_both.Goals as goal

pub set-requires : goal.set-requires
set-requires c =
    let entered = c.in-Ok.ensures.ok ∙ ap (λ (m : Ratings). insert m c.args.loser.now (rating m c.args.loser.now)) c.in_ok-fresh.ensures.ok in
    ap (λ (m : Ratings). contains_key m c.args.winner.now) entered
    ∙ keeps_put _ c.args.loser.now _ c.args.winner.now (has_put c.args.scores.now c.args.winner.now (rating c.args.scores.now c.args.winner.now))

pub set-requires-in-Ok : goal.set-requires-in-Ok
set-requires-in-Ok c =
    ap (λ (m : Ratings). contains_key m c.args.loser.now) c.set.ensures
    ∙ keeps_put _ c.args.winner.now _ c.args.loser.now (ap (λ (m : Ratings). contains_key m c.args.loser.now) c.in-Ok.ensures.ok ∙ has_put _ c.args.loser.now _)

pub returns-then-fresh-clause-err : goal.returns-then-fresh-clause-err
returns-then-fresh-clause-err c =
    let absent : contains_key c.args.scores.now c.args.winner.now ≡ false = not-true _ (sym c.in_ok-fresh.ensures.fresh ∙ c.if-fresh.true) in
    c.remove.ensures ∙ ap (λ (m : Ratings). remove m c.args.winner.now) (c.in-Err.ensures.err ∙ c.in_ok-fresh.ensures.ok) ∙ undone c.args.scores.now c.args.winner.now _ absent

pub returns-else-fresh-clause-err : goal.returns-else-fresh-clause-err
returns-else-fresh-clause-err c =
    let present : contains_key c.args.scores.now c.args.winner.now ≡ true = not-false _ (sym c.in_ok-fresh.ensures.fresh ∙ c.if-fresh.false) in
    c.in-Err.ensures.err ∙ c.in_ok-fresh.ensures.ok ∙ kept c.args.scores.now c.args.winner.now present

pub returns-in-Ok-clause-ok : goal.returns-in-Ok-clause-ok
returns-in-Ok-clause-ok c =
    let entered = c.in-Ok.ensures.ok ∙ ap (λ (m : Ratings). insert m c.args.loser.now (rating m c.args.loser.now)) c.in_ok-fresh.ensures.ok in
    c.set-in-Ok.ensures ∙ ap (insert c.set.new.self c.args.loser.now) (to_z-of_z w32 c.args.lower c.ranges.lower)
    ∙ ap (λ (m : Ratings). insert m c.args.loser.now c.args.lower) (c.set.ensures ∙ ap (insert c.enter-2.new.self c.args.winner.now) (to_z-of_z w32 c.args.higher c.ranges.higher)
    ∙ ap (λ (m : Ratings). insert m c.args.winner.now c.args.higher) entered)
    ∙ forgotten c.args.scores.now c.args.winner.now c.args.loser.now _ _ c.args.higher c.args.lower
