-- Ratings of one format, which are a fold over the results of its rated battles.
use Rattle.std.specs.Prelude.{◌≡◌, ℕ, ◌+◌, ◌*◌, ◌≤◌, Bool, false, ◌||◌, ℤ, pos, ◌+ℤ◌, ◌-ℤ◌, ◌≤ℤ◌, List, [], ◌∷◌, length, unwrap_or}
use Rattle.std.specs.FinMap.{get, insert, empty, len, values}
use Rattle.std.specs.Str.{bytes_eq}
use Rattle.ps_base.specs.ById.{ById}
use Rattle.ps_base.specs.Limits.{most_battles}
use Rattle.ps_ladder.specs.Gains.{gain_of}

-- who won a rated battle, and who lost it, by their ids
pub record Won : Type 0 where
  pub winner : List ℕ
  pub loser : List ℕ

-- the ratings of those who were rated
abbrev pub Ratings : Type 0
Ratings = ById ℤ

-- the rating of a user: 1000 for who was never rated
abbrev pub rating : Ratings → List ℕ → ℤ
rating ratings user = unwrap_or (get ratings user) (pos 1000)

-- so many points go from loser to winner
abbrev pub moved : Ratings → List ℕ → List ℕ → ℕ → Ratings
moved ratings winner loser gain = insert (insert ratings winner (rating ratings winner +ℤ pos gain)) loser
    (rating ratings loser -ℤ pos gain)

-- the ratings after a battle was won
abbrev pub settled : Ratings → List ℕ → List ℕ → Ratings
settled ratings winner loser = moved ratings winner loser (gain_of (rating ratings winner) (rating ratings loser))

-- the ratings after results, the oldest first
abbrev pub ratings_from : Ratings → List Won → Ratings
ratings_from ratings [] = ratings
ratings_from ratings (result ∷ results) = ratings_from (settled ratings result.winner result.loser) results

abbrev pub ratings_of : List Won → Ratings
ratings_of results = ratings_from empty results

abbrev pub rating_of : List ℕ → List Won → ℤ
rating_of user results = rating (ratings_of results) user

-- ---- the ladder

-- how many results there were, and the ratings after them
pub record Standing : Type 0 where
  pub count : ℕ
  pub ratings : Ratings

abbrev pub standing_of : List Won → Standing
standing_of results = record { count = length results; ratings = ratings_of results }

-- the standing after one more result
abbrev pub standing_after : Standing → List ℕ → List ℕ → Standing
standing_after standing winner loser = record { count = standing.count + 1; ratings = settled standing.ratings winner loser }

-- ---- what results can't change

abbrev pub sum : List ℤ → ℤ
sum [] = pos 0
sum (number ∷ numbers) = number +ℤ sum numbers

-- the sum of all ratings is 1000 times the number of those who were rated
abbrev pub IsBalanced : Ratings → Type 0
IsBalanced ratings = sum (values ratings) ≡ pos (1000 * len ratings)

-- whether a user played a battle
abbrev pub has_played : List ℕ → Won → Bool
has_played user result = bytes_eq user result.winner || bytes_eq user result.loser

-- a battle between two users
abbrev pub IsOfTwo : Won → Type 0
IsOfTwo result = bytes_eq result.winner result.loser ≡ false

-- after so many results nobody is further from 1000 than 32 points for each
pub record IsNear (count : ℕ) (points : ℤ) : Type 0 where
  pub low : pos 1000 ≤ℤ (points +ℤ pos (32 * count))
  pub high : points ≤ℤ pos (1000 + 32 * count)

abbrev pub AreNear : ℕ → Ratings → Type 0
AreNear count ratings = (user : List ℕ) → IsNear count (rating ratings user)

-- what is true of a ladder at any time
pub record IsSound (standing : Standing) : Type 0 where
  pub few : standing.count ≤ most_battles
  pub near : AreNear standing.count standing.ratings
  pub balanced : IsBalanced standing.ratings
