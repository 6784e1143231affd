use Rattle.std.proofs.Common.{◌≡◌, sym, ap, ◌∙◌, pos, ◌+ℤ◌, ◌-ℤ◌, w32, SFits, rules}
use Rattle.std.proofs.lemmas.Int.{to_z-of_z}
use Rattle.ps_ladder.specs.Gains.{gain_of}
use Rattle.ps_ladder.specs.Ratings.{rating}
use Rattle.ps_ladder.proofs.SumLemmas.{winner_new, loser_new}
use Rattle.ps_ladder.proofs.ladder.preview.Goals as goal

pub returns-clause-winner : goal.returns-clause-winner
returns-clause-winner c =
    let high : c.rating-higher.result ≡ rating c.args.scores.now c.args.winner.now = search rules in
    let low : c.rating-lower.result ≡ rating c.args.scores.now c.args.loser.now = search rules in
    let high-fits : SFits w32 c.rating-higher.result = search rules in
    let low-fits : SFits w32 c.rating-lower.result = search rules in
    let fits : SFits w32 c.new_ratings-higher.result.0 = search rules in
    let new = simp (to_z-of_z, high-fits, low-fits) at c.new_ratings-higher.ensures.winner in
    to_z-of_z w32 c.new_ratings-higher.result.0 fits ∙ new
    ∙ ap (λ z. z +ℤ pos (gain_of z c.rating-lower.result)) high ∙ ap (λ z. rating c.args.scores.now c.args.winner.now +ℤ pos (gain_of (rating c.args.scores.now c.args.winner.now) z)) low
    ∙ sym (winner_new c.args.scores.now c.args.winner.now c.args.loser.now _ c.requires.apart)

pub returns-clause-loser : goal.returns-clause-loser
returns-clause-loser c =
    let high : c.rating-higher.result ≡ rating c.args.scores.now c.args.winner.now = search rules in
    let low : c.rating-lower.result ≡ rating c.args.scores.now c.args.loser.now = search rules in
    let high-fits : SFits w32 c.rating-higher.result = search rules in
    let low-fits : SFits w32 c.rating-lower.result = search rules in
    let fits : SFits w32 c.new_ratings-higher.result.1 = search rules in
    let new = simp (to_z-of_z, high-fits, low-fits) at c.new_ratings-higher.ensures.loser in
    to_z-of_z w32 c.new_ratings-higher.result.1 fits ∙ new
    ∙ ap (λ z. c.rating-lower.result -ℤ pos (gain_of z c.rating-lower.result)) high ∙ ap (λ z. z -ℤ pos (gain_of (rating c.args.scores.now c.args.winner.now) z)) low
    ∙ sym (loser_new c.args.scores.now c.args.winner.now c.args.loser.now _)
