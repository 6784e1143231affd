-- The standings of a format: its users by their ratings.
use Rattle.std.specs.Prelude.{◌≡◌, ℕ, true, List, [], ◌∷◌, ◌++◌, Option, Some, None, codes}
use Rattle.std.specs.List.{All, Any, list_any, flat_map}
use Rattle.std.specs.List.Sorted.{IsStrictlySortedBy}
use Rattle.std.specs.Ordering.{nat_cmp, int_cmp, on, then_cmp, flip_args}
use Rattle.std.specs.declared.cmp.Ordering.{Ordering}
use Rattle.std.specs.Cmp.Lexicographic.{slice_cmp}
use Rattle.std.specs.Fmt.{signed_decimal}
use Rattle.ps_ladder.specs.Ratings.{Won, Ratings, Standing, rating, rating_of, standing_after, has_played}
use Rattle.ps_keep.specs.declared.note.Note.{Note}
use Rattle.ps_keep.specs.Results.{result_in}
use Rattle.ps_keep.specs.declared.standings.Place.{Place}

-- the higher rating stands first, and of equal ones the lower id
abbrev pub place_cmp : Place → Place → Ordering
place_cmp = then_cmp (flip_args (on (λ place. place.rating) int_cmp)) (on (λ place. place.user) (slice_cmp nat_cmp))

-- These are the standings after the results: who played a battle, each once, with the rating of its own; each stands before all who
-- stand lower.
pub record AreStandings (results : List Won) (places : List Place) : Type 0 where
  pub rated : All (λ place. place.rating ≡ rating_of place.user results) places
  pub only : All (λ place. list_any (has_played place.user) results ≡ true) places
  pub all : (user : List ℕ) → list_any (has_played user) results ≡ true → Any (λ place. place.user ≡ user) places
  pub order : IsStrictlySortedBy place_cmp places

-- the text of a place: the user and its rating
abbrev pub place_text : Place → List ℕ
place_text place = place.user ++ codes " " ++ signed_decimal place.rating

-- ---- for the code alone

-- the standing of a ladder after a result, if there is one
abbrev pub standing_with : Standing → Option Won → Standing
standing_with standing None = standing
standing_with standing (Some result) = standing_after standing result.winner result.loser

abbrev pub standing_from : Standing → List ℕ → List Note → Standing
standing_from standing format [] = standing
standing_from standing format (note ∷ notes) = standing_from (standing_with standing (result_in format note)) format notes

-- the places of both users of a result, if there is one
abbrev pub places_with : Ratings → Option Won → List Place
places_with ratings None = []
places_with ratings (Some result) = record { user = result.winner; rating = rating ratings result.winner }
    ∷ record { user = result.loser; rating = rating ratings result.loser } ∷ []

-- those of all results of a format, before they are sorted
abbrev pub places_in : Ratings → List ℕ → List Note → List Place
places_in ratings format notes = flat_map (λ note. places_with ratings (result_in format note)) notes
