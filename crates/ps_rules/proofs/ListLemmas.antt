-- Lists: the item at an index, what is left from there, and one item set.
use Rattle.std.proofs.Common.{◌≡◌, ℕ, zero, suc, ◌<◌, List, [], ◌∷◌, ◌++◌, length, take, drop, set, Some, None, refl, ap, arith}
use Rattle.std.specs.List.{slice_get}
use Rattle.std.proofs.lemmas.Option.{same_Some}

module _ {A : Type 0} where
  pub rest_at : (xs : List A) (i : ℕ) (x : A) → slice_get xs i ≡ Some x → drop i xs ≡ x ∷ drop (suc i) xs
  rest_at [] i x e = absurd cc
  rest_at (y ∷ xs) zero x e = ap (λ (z : A). z ∷ xs) (same_Some y x e)
  rest_at (y ∷ xs) (suc i) x e = rest_at xs i x e

  pub rest_past : (xs : List A) (i : ℕ) → slice_get xs i ≡ None → drop i xs ≡ []
  rest_past [] zero e = refl
  rest_past [] (suc i) e = refl
  rest_past (y ∷ xs) zero e = absurd cc
  rest_past (y ∷ xs) (suc i) e = rest_past xs i e

  pub front_at : (xs : List A) (i : ℕ) (x : A) → slice_get xs i ≡ Some x → take (suc i) xs ≡ take i xs ++ x ∷ []
  front_at [] i x e = absurd cc
  front_at (y ∷ xs) zero x e = ap (λ (z : A). z ∷ []) (same_Some y x e)
  front_at (y ∷ xs) (suc i) x e = ap (λ (zs : List A). y ∷ zs) (front_at xs i x e)

  pub front_past : (xs : List A) (i : ℕ) → slice_get xs i ≡ None → take i xs ≡ xs
  front_past [] zero e = refl
  front_past [] (suc i) e = refl
  front_past (y ∷ xs) zero e = absurd cc
  front_past (y ∷ xs) (suc i) e = ap (λ (zs : List A). y ∷ zs) (front_past xs i e)

  pub item_at : (xs : List A) (i : ℕ) → i < length xs → (x : A) × (slice_get xs i ≡ Some x)
  item_at [] i lt = absurd (omega arith)
  item_at (x ∷ xs) zero lt = (x, refl)
  item_at (x ∷ xs) (suc i) lt = item_at xs i (omega arith)

  pub set_there : (xs : List A) (i : ℕ) (y : A) → i < length xs → slice_get (set xs i y) i ≡ Some y
  set_there [] i y lt = absurd (omega arith)
  set_there (x ∷ xs) zero y lt = refl
  set_there (x ∷ xs) (suc i) y lt = set_there xs i y (omega arith)

  pub set_elsewhere : (xs : List A) (i j : ℕ) (y : A) → (i ≡ j → ⊥) → slice_get (set xs i y) j ≡ slice_get xs j
  set_elsewhere [] i j y ne = refl
  set_elsewhere (x ∷ xs) zero zero y ne = absurd (ne refl)
  set_elsewhere (x ∷ xs) zero (suc j) y ne = refl
  set_elsewhere (x ∷ xs) (suc i) zero y ne = refl
  set_elsewhere (x ∷ xs) (suc i) (suc j) y ne = set_elsewhere xs i j y (λ e. ne (ap suc e))
