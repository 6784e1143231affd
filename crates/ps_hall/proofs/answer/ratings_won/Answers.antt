use Rattle.std.proofs.Common.{◌≡◌, ap, ◌∙◌, arith, w32, SFits, rules}
use Rattle.std.proofs.lemmas.Bool.Decides.{nat_tests}
use Rattle.std.proofs.lemmas.Int.{to_z-of_z}
use Rattle.ps_hall.specs.Steps.{winner_of, loser_of}
use Rattle.ps_hall.proofs.AnswerLemmas.{rating_then}
use Rattle.ps_hall.proofs.answer.ratings_won.Goals as goal

pub returns-then-won-eq0-clause-one : goal.returns-then-won-eq0-clause-one
returns-then-won-eq0-clause-one c =
    let fits : SFits w32 c.ratings_of-higher.result.0 = search rules in
    let won : c.args.won ≡ 0 = grind (arith, nat_tests, c.if-won-eq0.true) in
    to_z-of_z w32 c.ratings_of-higher.result.0 fits
    ∙ rating_then c.args.ladders.now c.args.game.now.format _ _ _ _ _ _ _ c.winner_of.ensures c.loser_of.ensures (c.winner_of.ensures ∙ ap (winner_of c.args.game.now) won) c.ratings_of-higher.ensures.winner

pub returns-then-won-eq0-clause-two : goal.returns-then-won-eq0-clause-two
returns-then-won-eq0-clause-two c =
    let fits : SFits w32 c.ratings_of-higher.result.1 = search rules in
    let won : c.args.won ≡ 0 = grind (arith, nat_tests, c.if-won-eq0.true) in
    to_z-of_z w32 c.ratings_of-higher.result.1 fits
    ∙ rating_then c.args.ladders.now c.args.game.now.format _ _ _ _ _ _ _ c.winner_of.ensures c.loser_of.ensures (c.loser_of.ensures ∙ ap (loser_of c.args.game.now) won) c.ratings_of-higher.ensures.loser

pub returns-clause-one : goal.returns-clause-one
returns-clause-one c =
    let fits : SFits w32 c.ratings_of-higher.result.1 = search rules in
    let won : c.args.won ≡ 1 = grind (arith, nat_tests, c.if-won-eq0.false, c.requires) in
    to_z-of_z w32 c.ratings_of-higher.result.1 fits
    ∙ rating_then c.args.ladders.now c.args.game.now.format _ _ _ _ _ _ _ c.winner_of.ensures c.loser_of.ensures (c.loser_of.ensures ∙ ap (loser_of c.args.game.now) won) c.ratings_of-higher.ensures.loser

pub returns-clause-two : goal.returns-clause-two
returns-clause-two c =
    let fits : SFits w32 c.ratings_of-higher.result.0 = search rules in
    let won : c.args.won ≡ 1 = grind (arith, nat_tests, c.if-won-eq0.false, c.requires) in
    to_z-of_z w32 c.ratings_of-higher.result.0 fits
    ∙ rating_then c.args.ladders.now c.args.game.now.format _ _ _ _ _ _ _ c.winner_of.ensures c.loser_of.ensures (c.winner_of.ensures ∙ ap (winner_of c.args.game.now) won) c.ratings_of-higher.ensures.winner
