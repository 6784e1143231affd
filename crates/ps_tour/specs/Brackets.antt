-- A single elimination: who meets whom, from the order of the entrants and the winners so far.
use Rattle.std.specs.Prelude.{◌≡◌, ◌⊎◌, ℕ, zero, suc, ◌+◌, ◌-◌, List, [], ◌∷◌, ◌++◌, length, take, drop, nat_le, Option, Some, None}
use Rattle.std.specs.Prelude.{if◌then◌else◌}
use Rattle.std.specs.List.{swap}
use Rattle.ps_calc.specs.Draws.{after, drawn}

-- ---- the order

-- so many entrants, from 1 on
abbrev pub entrants : ℕ → List ℕ
entrants zero = []
entrants (suc count) = entrants count ++ suc count ∷ []

-- From the last place down to place 1, counted from 0, who stands there changes places with whom a draw among the places up to it
-- tells. The first number is the state of the source.
abbrev pub shuffled : ℕ → ℕ → List ℕ → List ℕ
shuffled state zero order = order
shuffled state (suc place) order = shuffled (after state) place (swap order (suc place) (drawn (after state) (suc place + 1)))

-- the order of so many entrants that a seed draws
abbrev pub order : ℕ → ℕ → List ℕ
order count seed = shuffled seed (count - 1) (entrants count)

-- ---- rounds

-- the least power of two that isn't below the count, which is 2 to 16
unfoldable pub size : ℕ → ℕ
size count = if nat_le count 2 then 2 else (if nat_le count 4 then 4 else (if nat_le count 8 then 8 else 16))

-- A round: who has come through to the next one, first those with a bye and then the winners in the order of their matches; and
-- those whose matches are still to come, in consecutive pairs.
pub record Round : Type 0 where
  pub through : List ℕ
  pub playing : List ℕ

-- the first round: as many as lack to a power of two have a bye, the first of the order; the others meet
abbrev pub first_with : ℕ → List ℕ → Round
first_with byes entered = record { through = take byes entered; playing = drop byes entered }

abbrev pub first_round : ℕ → ℕ → Round
first_round count seed = first_with (size count - count) (order count seed)

-- where a round's last match is over, all who came through meet in the next one; but one alone is the champion
abbrev pub next_round : List ℕ → Round
next_round [] = record { through = []; playing = [] }
next_round (victor ∷ []) = record { through = victor ∷ []; playing = [] }
next_round (first ∷ second ∷ rest) = record { through = []; playing = first ∷ second ∷ rest }

abbrev pub going_on : List ℕ → List ℕ → Round
going_on through [] = next_round through
going_on through (first ∷ rest) = record { through = through; playing = first ∷ rest }

-- a round after the open match, which this entrant won
abbrev pub after_win : ℕ → Round → Round
after_win winner round = going_on (round.through ++ winner ∷ []) (drop 2 round.playing)

abbrev pub after_wins : Round → List ℕ → Round
after_wins round [] = round
after_wins round (winner ∷ winners) = after_wins (after_win winner round) winners

-- the tournament of so many entrants of which this seed draws the order, after these wins
abbrev pub bracket : ℕ → ℕ → List ℕ → Round
bracket count seed winners = after_wins (first_round count seed) winners

-- ---- what is open, or decided

-- the two who meet next
abbrev pub first_pair : List ℕ → Option (ℕ × ℕ)
first_pair [] = None
first_pair (first ∷ []) = None
first_pair (first ∷ second ∷ rest) = Some (first, second)

abbrev pub open_match : Round → Option (ℕ × ℕ)
open_match round = first_pair round.playing

abbrev pub champion_with : List ℕ → List ℕ → Option ℕ
champion_with [] [] = None
champion_with (victor ∷ victors) [] = Some victor
champion_with through (first ∷ rest) = None

-- who came through alone, where nobody is to meet any more
abbrev pub champion : Round → Option ℕ
champion round = champion_with round.through round.playing

-- one of two who meet
abbrev pub IsOneOf : ℕ → Option (ℕ × ℕ) → Type 0
IsOneOf winner None = ⊥
IsOneOf winner (Some pair) = (winner ≡ pair.0) ⊎ (winner ≡ pair.1)

-- ---- for the code: what holds of each round

abbrev pub IsNextSize : ℕ → Type 0
IsNextSize count = (count ≡ 1) ⊎ ((count ≡ 2) ⊎ ((count ≡ 4) ⊎ (count ≡ 8)))

-- with so many matches to come in it: the next round has 1, 2, 4 or 8 entrants; who is alone is the champion
pub record IsRound (round : Round) : Type 0 where
  pub matches : ℕ
  pub paired : length round.playing ≡ matches + matches
  pub next : IsNextSize (length round.through + matches)
  pub alone : round.playing ≡ [] → length round.through ≡ 1
