-- The two spellings of texts with a byte between each two.
use Rattle.std.proofs.Common.{◌≡◌, ℕ, List, [], ◌∷◌, ◌++◌, map, refl, ap, append-nil}
use Rattle.std.specs.List.{join_by, join_with_byte}

pub joined_is : {X : Type 0} (f : X → List ℕ) (c : ℕ) (xs : List X) → join_by f (c ∷ []) xs ≡ join_with_byte c (map f xs)
joined_is f c [] = refl
joined_is f c (x ∷ []) = append-nil (f x)
joined_is f c (x ∷ y ∷ xs) = ap (λ (u : List ℕ). f x ++ c ∷ u) (joined_is f c (y ∷ xs))
