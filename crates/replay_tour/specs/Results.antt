-- What is told of a tournament behind its transcript.
use Rattle.std.specs.Prelude.{◌≡◌, ℕ, List, [], ◌∷◌, ◌++◌, map, codes, Option, Some, None, IsPermutation}
use Rattle.std.specs.List.{flat_map}
use Rattle.ps_tour.specs.Brackets.{entrants, champion}
use Rattle.replay_tour.specs.declared.win.Win.{Win}
use Rattle.replay_tour.specs.Entrants.{user_name}
use Rattle.replay_tour.specs.Tours.{Tour}
use Rattle.ps_base.specs.Characters as characters

-- who beat whom
abbrev pub win_line : Win → List ℕ
win_line win = user_name win.winner ++ codes " beat " ++ user_name win.loser ++ characters.newline ∷ []

abbrev pub champion_line : Option ℕ → List ℕ
champion_line None = []
champion_line (Some victor) = codes "champion " ++ user_name victor ++ characters.newline ∷ []

-- a line a match, in order, and then the champion's, if there is one
abbrev pub result_text : Tour → List ℕ
result_text tour = flat_map win_line tour.wins ++ champion_line (champion tour.round)

-- ---- what comes of it

-- the last match was won, and each of the users was beaten exactly once, but for the champion, who never was
pub record IsDecidedTour (users : ℕ) (tour : Tour) : Type 0 where
  pub winner : ℕ
  pub champion_is : champion tour.round ≡ Some winner
  pub once : IsPermutation (entrants users) (map (λ win. win.loser) tour.wins ++ winner ∷ [])
