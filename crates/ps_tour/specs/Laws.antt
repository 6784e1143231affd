-- Each entrant but the champion is beaten exactly once.
use Rattle.std.specs.Prelude.{◌≡◌, ℕ, ◌+◌, ◌==◌, ◌≤◌, List, [], ◌∷◌, ◌++◌, length, Option, Some, None, if◌then◌else◌, IsPermutation}
use Rattle.ps_tour.specs.Brackets.{Round, entrants, first_round, after_win, bracket, open_match, champion, IsOneOf}

-- each of these is one of the two who meet then
abbrev pub AreWinners : Round → List ℕ → Type 0
AreWinners round [] = Unit {0}
AreWinners round (winner ∷ winners) = IsOneOf winner (open_match round) × AreWinners (after_win winner round) winners

-- who of two doesn't win
abbrev pub loser_of : ℕ → Option (ℕ × ℕ) → List ℕ
loser_of winner None = []
loser_of winner (Some pair) = (if winner == pair.0 then pair.1 else pair.0) ∷ []

-- who was beaten, match by match
abbrev pub beaten : Round → List ℕ → List ℕ
beaten round [] = []
beaten round (winner ∷ winners) = loser_of winner (open_match round) ++ beaten (after_win winner round) winners

-- after wins of which each is of one who met then
pub record IsDecided (count seed : ℕ) (winners : List ℕ) (victor : ℕ) : Type 0 where
  pub once : IsPermutation (entrants count) (beaten (first_round count seed) winners ++ victor ∷ [])
  pub matches : length winners + 1 ≡ count

-- each of these wins is one of the bracket, and with them it is over
pub record IsWon (count seed : ℕ) (winners : List ℕ) (victor : ℕ) : Type 0 where
  pub won : AreWinners (first_round count seed) winners
  pub over : champion (bracket count seed winners) ≡ Some victor

abbrev pub LawOfBrackets : Type 0
LawOfBrackets = (count seed victor : ℕ) (winners : List ℕ) → 2 ≤ count → count ≤ 16 → IsWon count seed winners victor
    → IsDecided count seed winners victor
