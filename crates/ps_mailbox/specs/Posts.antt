-- Posts by the numbers of the tickets that they were posted with.
use Rattle.std.specs.Prelude.{◌≡◌, ℕ, ◌==◌, List, [], ◌∷◌, All, if◌then◌else◌}
use mathlib.Core.List.{IsPrefix}
use Rattle.ps_mailbox.specs.declared.view.Numbered.{Numbered}
use Rattle.ps_mailbox.specs.declared.view.Met.{Met}

module _ {T : Type 0} where
  abbrev pub numbered : ℕ → T → Numbered T
  numbered number post = record { number = number; post = post }

  -- the posts with this number, in order
  abbrev pub posts_of : ℕ → List (Numbered T) → List T
  posts_of number [] = []
  posts_of number (first ∷ xs) = if first.number == number then first.post ∷ posts_of number xs else posts_of number xs

  -- of each of these tickets the first so many posts were taken, in order
  abbrev pub AreTakenInOrder : List (Numbered T) → List (Met T) → Type 0
  AreTakenInOrder taken met = All (λ (ticket : Met T). IsPrefix (posts_of ticket.number taken) ticket.posted) met

  -- of each of these tickets all posts were taken, in order
  abbrev pub AreAllTaken : List (Numbered T) → List (Met T) → Type 0
  AreAllTaken taken met = All (λ (ticket : Met T). posts_of ticket.number taken ≡ ticket.posted) met
