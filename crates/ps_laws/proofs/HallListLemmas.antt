-- Lists of which a test lets a part through.
use Rattle.std.proofs.Common.{◌≡◌, Bool, true, false, cond, not, ◌&&◌, ◌||◌, List, [], ◌∷◌, Some, IfSome, option_map, find, map, refl, ap}
use Rattle.std.specs.List.{filter, list_any}

module _ {X : Type 0} where
  find_at : (p q : X → Bool) (x : X) (xs : List X) (a b : Bool) → p x ≡ a → q x ≡ b → (a ≡ true → b ≡ true) → find p (filter q xs) ≡ find p xs
      → find p (cond b (x ∷ filter q xs) (filter q xs)) ≡ cond a (Some x) (find p xs)
  find_at p q x xs a true is with_choice sub more = rw is (ap (cond a (Some x)) more)
  find_at p q x xs true false is with_choice sub more = let wrong : false ≡ true = sub refl in absurd cc
  find_at p q x xs false false is with_choice sub more = more

  -- the first that passes is looked for among those that a wider test lets through
  pub find_within : (p q : X → Bool) → ((x : X) → p x ≡ true → q x ≡ true) → (xs : List X) → find p (filter q xs) ≡ find p xs
  find_within p q sub [] = refl
  find_within p q sub (x ∷ xs) = find_at p q x xs (p x) (q x) refl refl (sub x) (find_within p q sub xs)

  passes_at : (p : X → Bool) (x : X) (xs : List X) (a : Bool) → p x ≡ a → IfSome (find p xs) (λ y. p y ≡ true) → IfSome (cond a (Some x) (find p xs)) (λ y. p y ≡ true)
  passes_at p x xs true is more = is
  passes_at p x xs false is more = more

  -- the first that passes does
  pub find_passes : (p : X → Bool) (xs : List X) → IfSome (find p xs) (λ y. p y ≡ true)
  find_passes p [] = tt
  find_passes p (x ∷ xs) = passes_at p x xs (p x) refl (find_passes p xs)

  keep_at : (p q : X → Bool) (x : X) (xs : List X) (a b : Bool) → p x ≡ a → q x ≡ b → (a ≡ true → b ≡ true) → filter p (filter q xs) ≡ filter p xs
      → filter p (cond b (x ∷ filter q xs) (filter q xs)) ≡ cond a (x ∷ filter p xs) (filter p xs)
  keep_at p q x xs a true is with_choice sub more = rw is (ap (λ (ys : List X). cond a (x ∷ ys) ys) more)
  keep_at p q x xs true false is with_choice sub more = let wrong : false ≡ true = sub refl in absurd cc
  keep_at p q x xs false false is with_choice sub more = more

  -- those that pass are looked for among those that a wider test lets through
  pub keep_within : (p q : X → Bool) → ((x : X) → p x ≡ true → q x ≡ true) → (xs : List X) → filter p (filter q xs) ≡ filter p xs
  keep_within p q sub [] = refl
  keep_within p q sub (x ∷ xs) = keep_at p q x xs (p x) (q x) refl refl (sub x) (keep_within p q sub xs)

  turn_at : (p q : X → Bool) (x : X) (xs : List X) (a b : Bool) → p x ≡ a → q x ≡ b → filter p (filter q xs) ≡ filter q (filter p xs)
      → filter p (cond b (x ∷ filter q xs) (filter q xs)) ≡ filter q (cond a (x ∷ filter p xs) (filter p xs))
  turn_at p q x xs true true is with_choice more = rw (is, with_choice) (ap (λ (ys : List X). x ∷ ys) more)
  turn_at p q x xs true false is with_choice more = rw with_choice more
  turn_at p q x xs false true is with_choice more = rw is more
  turn_at p q x xs false false is with_choice more = more

  -- two tests, in either order
  pub keep_turned : (p q : X → Bool) (xs : List X) → filter p (filter q xs) ≡ filter q (filter p xs)
  keep_turned p q [] = refl
  keep_turned p q (x ∷ xs) = turn_at p q x xs (p x) (q x) refl refl (keep_turned p q xs)

  -- what a second test drops was let through by none that the first lets through
  quiet_at : (p q : X → Bool) (x : X) (xs : List X) (a b : Bool) → p x ≡ a → q x ≡ b → ((a && not b) || list_any (λ y. p y && not (q y)) xs) ≡ false
      → (list_any (λ y. p y && not (q y)) xs ≡ false → filter p (filter q xs) ≡ filter p xs)
      → filter p (cond b (x ∷ filter q xs) (filter q xs)) ≡ cond a (x ∷ filter p xs) (filter p xs)
  quiet_at p q x xs true true is with_choice none more = rw is (ap (λ (ys : List X). x ∷ ys) (more none))
  quiet_at p q x xs true false is with_choice none more = let wrong : true ≡ false = none in absurd cc
  quiet_at p q x xs false true is with_choice none more = rw is (more none)
  quiet_at p q x xs false false is with_choice none more = more none

  pub keep_quiet : (p q : X → Bool) (xs : List X) → list_any (λ y. p y && not (q y)) xs ≡ false → filter p (filter q xs) ≡ filter p xs
  keep_quiet p q [] none = refl
  keep_quiet p q (x ∷ xs) none = quiet_at p q x xs (p x) (q x) refl refl none (keep_quiet p q xs)

module _ {X Y : Type 0} where
  map_at : (f : X → Y) (p : Y → Bool) (x : X) (xs : List X) (a : Bool) → map f (filter (λ y. p (f y)) xs) ≡ filter p (map f xs)
      → map f (cond a (x ∷ filter (λ y. p (f y)) xs) (filter (λ y. p (f y)) xs)) ≡ cond a (f x ∷ filter p (map f xs)) (filter p (map f xs))
  map_at f p x xs true more = ap (λ (ys : List Y). f x ∷ ys) more
  map_at f p x xs false more = more

  pub map_kept : (f : X → Y) (p : Y → Bool) (xs : List X) → map f (filter (λ y. p (f y)) xs) ≡ filter p (map f xs)
  map_kept f p [] = refl
  map_kept f p (x ∷ xs) = map_at f p x xs (p (f x)) (map_kept f p xs)

  found_at : (f : X → Y) (p : Y → Bool) (x : X) (xs : List X) (a : Bool) → option_map f (find (λ y. p (f y)) xs) ≡ find p (map f xs)
      → option_map f (cond a (Some x) (find (λ y. p (f y)) xs)) ≡ cond a (Some (f x)) (find p (map f xs))
  found_at f p x xs true more = refl
  found_at f p x xs false more = more

  pub find_mapped : (f : X → Y) (p : Y → Bool) (xs : List X) → option_map f (find (λ y. p (f y)) xs) ≡ find p (map f xs)
  find_mapped f p [] = refl
  find_mapped f p (x ∷ xs) = found_at f p x xs (p (f x)) (find_mapped f p xs)

  pub any_mapped : (f : X → Y) (p : Y → Bool) (xs : List X) → list_any p (map f xs) ≡ list_any (λ x. p (f x)) xs
  any_mapped f p [] = refl
  any_mapped f p (x ∷ xs) = ap (λ b. p (f x) || b) (any_mapped f p xs)
