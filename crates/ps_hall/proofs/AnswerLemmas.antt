-- The lists of the hall after a start, and the ratings after a report.
use Rattle.std.proofs.Common.{◌≡◌, ℕ, List, [], ◌++◌, Option, Some, None, refl, sym, ap, ◌∙◌, append-nil, option_to_list}
use Rattle.std.specs.Prelude.{ℤ, unwrap_or}
use Rattle.ps_base.specs.ById.{ById}
use Rattle.hall_index.proofs.MapLemmas.{get_inserted}
use Rattle.ps_ladder.specs.Ratings.{Standing, standing_of, rating}
use Rattle.ps_hall.specs.declared.game.Game.{Game}
use Rattle.ps_hall.specs.Records.{Record}
use Rattle.ps_hall.specs.Lookups.{ladder_in}
use Rattle.ps_hall.specs.Starts.{with_game}
use Rattle.ps_hall.specs.Steps.{standing_with, with_settled}

pub games_then : (h : Record) (g : Option Game) → (with_game h g).games ≡ h.games ++ option_to_list g
games_then h None = sym (append-nil h.games)
games_then h (Some g) = refl

pub searches_then : (h : Record) (g : Option Game) → (with_game h g).searches ≡ h.searches
searches_then h None = refl
searches_then h (Some g) = refl

pub pms_then : (h : Record) (g : Option Game) → (with_game h g).pms ≡ h.pms
pms_then h None = refl
pms_then h (Some g) = refl

pub ruleset starts = (games_then, searches_then, pms_then)

-- the ladder of a format after a result
pub settled_in : (ladders : ById Standing) (format winner loser : List ℕ) → ladder_in (with_settled ladders format winner loser) format ≡ standing_with (ladder_in ladders format) winner loser
settled_in ladders format winner loser = ap (λ (o : Option Standing). unwrap_or o (standing_of [])) (get_inserted ladders format (standing_with (ladder_in ladders format) winner loser))

-- the rating of somebody after a result, told of equal ids
pub rating_then : (ladders : ById Standing) (format w l u winner loser user : List ℕ) (z : ℤ) → w ≡ winner → l ≡ loser → u ≡ user → z ≡ rating (standing_with (ladder_in ladders format) w l).ratings u → z ≡ rating (ladder_in (with_settled ladders format winner loser) format).ratings user
rating_then ladders format w l u winner loser user z p q r e =
    e
    ∙ ap (λ (x : List ℕ). rating (standing_with (ladder_in ladders format) x l).ratings u) p
    ∙ ap (λ (x : List ℕ). rating (standing_with (ladder_in ladders format) winner x).ratings u) q
    ∙ ap (λ (x : List ℕ). rating (standing_with (ladder_in ladders format) winner loser).ratings x) r
    ∙ sym (ap (λ (s : Standing). rating s.ratings user) (settled_in ladders format winner loser))
