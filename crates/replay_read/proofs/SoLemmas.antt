-- What is so of each element of a list.
use Rattle.std.proofs.Common.{List, [], ◌∷◌, ◌++◌}

abbrev pub AreSo : {X : Type 0} → (X → Type 0) → List X → Type 0
AreSo P [] = Unit {0}
AreSo P (x ∷ xs) = P x × AreSo P xs

pub so_append : {X : Type 0} (P : X → Type 0) (xs ys : List X) → AreSo P xs → AreSo P ys → AreSo P (xs ++ ys)
so_append P [] ys a b = b
so_append P (x ∷ xs) ys a b = (a.0, so_append P xs ys a.1 b)
