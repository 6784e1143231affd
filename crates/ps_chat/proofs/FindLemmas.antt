-- Places of the items that pass a test.
use Rattle.std.proofs.Common.{◌≡◌, ℕ, zero, suc, ◌+◌, ◌<◌, Bool, true, false, not, cond, List, [], ◌∷◌, ◌++◌, length, find, get_or, map, take, drop, set, add-one, Option, Some, None, is_some, refl, sym, ap, ◌∙◌, arith}
use Rattle.std.specs.List.{filter, remove}
use Rattle.std.proofs.Math.Seq.{take-suc}
use Rattle.std.proofs.lemmas.Bool.Decides.{nat_tests}
use Rattle.std.specs.Option.{option_map}
use Rattle.ps_chat.specs.Finding.{index_of, shifted}

no_index : (o : Option ℕ) → option_map suc o ≡ None → o ≡ None
no_index None e = refl
no_index (Some i) e = absurd cc

next_index : (o : Option ℕ) (i : ℕ) → option_map suc o ≡ Some (suc i) → o ≡ Some i
next_index None i e = absurd cc
next_index (Some j) i e = ap Some (omega (arith, some_is (suc j) (suc i) e))
  where
    some_is : (a b : ℕ) → Some a ≡ Some b → a ≡ b
    some_is a b h = cc

not_first : (o : Option ℕ) → option_map suc o ≡ Some 0 → ⊥
not_first None h = cc
not_first (Some j) h = let k : suc j ≡ 0 = cc in omega arith

not_later : (i : ℕ) → Some 0 ≡ Some (suc i) → ⊥
not_later i h = let k : 0 ≡ suc i = cc in omega arith

shift_first : (j : ℕ) → j ≡ shifted 0 (suc j)
shift_first j = grind (arith, nat_tests)

shift_later : (i j : ℕ) → suc (shifted i j) ≡ shifted (suc i) (suc j)
shift_later i j = grind (arith, nat_tests)

shift_none : (i : ℕ) → 0 ≡ shifted (suc i) 0
shift_none i = grind (arith, nat_tests)

still_some : (o : Option ℕ) → is_some o ≡ true → is_some (option_map suc o) ≡ true
still_some None e = e
still_some (Some j) e = e

module _ {A : Type 0} (test : A → Bool) where
  -- who has no index isn't found
  none_by : (x : A) (xs : List A) (b : Bool) → test x ≡ b → index_of test (x ∷ xs) ≡ None → (index_of test xs ≡ None → find test xs ≡ None) → find test (x ∷ xs) ≡ None
  none_by x xs true t e more = absurd (let k : Some 0 ≡ None = (rw t at e) in cc)
  none_by x xs false t e more = rw t (more (no_index (index_of test xs) (rw t at e)))

  pub find_none : (xs : List A) → index_of test xs ≡ None → find test xs ≡ None
  find_none [] e = refl
  find_none (x ∷ xs) e = none_by x xs (test x) refl e (find_none xs)

  -- who has an index is found there
  at_by : (x : A) (xs : List A) (i : ℕ) (d : A) (b : Bool) → test x ≡ b → index_of test (x ∷ xs) ≡ Some i → ((j : ℕ) → index_of test xs ≡ Some j → find test xs ≡ Some (get_or xs j d)) → find test (x ∷ xs) ≡ Some (get_or (x ∷ xs) i d)
  at_by x xs zero d true t e more = rw t refl
  at_by x xs (suc i) d true t e more = absurd (not_later i (rw t at e))
  at_by x xs zero d false t e more = absurd (not_first (index_of test xs) (rw t at e))
  at_by x xs (suc i) d false t e more = rw t (more i (next_index (index_of test xs) i (rw t at e)))

  pub find_at_index : (xs : List A) (i : ℕ) (d : A) → index_of test xs ≡ Some i → find test xs ≡ Some (get_or xs i d)
  find_at_index [] i d e = absurd cc
  find_at_index (x ∷ xs) i d e = at_by x xs i d (test x) refl e (λ j. find_at_index xs j d)

  below_by : (x : A) (xs : List A) (i : ℕ) (b : Bool) → test x ≡ b → index_of test (x ∷ xs) ≡ Some i → ((j : ℕ) → index_of test xs ≡ Some j → j < length xs) → i < length (x ∷ xs)
  below_by x xs zero b t e more = omega arith
  below_by x xs (suc i) true t e more = absurd (not_later i (rw t at e))
  below_by x xs (suc i) false t e more = omega (arith, more i (next_index (index_of test xs) i (rw t at e)))

  pub index_below : (xs : List A) (i : ℕ) → index_of test xs ≡ Some i → i < length xs
  index_below [] i e = absurd cc
  index_below (x ∷ xs) i e = below_by x xs i (test x) refl e (index_below xs)

  -- it passes the test
  pass_by : (x : A) (xs : List A) (i : ℕ) (d : A) (b : Bool) → test x ≡ b → index_of test (x ∷ xs) ≡ Some i → ((j : ℕ) → index_of test xs ≡ Some j → test (get_or xs j d) ≡ true) → test (get_or (x ∷ xs) i d) ≡ true
  pass_by x xs zero d true t e more = t
  pass_by x xs (suc i) d true t e more = absurd (not_later i (rw t at e))
  pass_by x xs zero d false t e more = absurd (not_first (index_of test xs) (rw t at e))
  pass_by x xs (suc i) d false t e more = more i (next_index (index_of test xs) i (rw t at e))

  pub index_passes : (xs : List A) (i : ℕ) (d : A) → index_of test xs ≡ Some i → test (get_or xs i d) ≡ true
  index_passes [] i d e = absurd cc
  index_passes (x ∷ xs) i d e = pass_by x xs i d (test x) refl e (λ j. index_passes xs j d)

  -- where one passes, one has an index
  some_by : (x : A) (xs : List A) (i : ℕ) (d : A) (b : Bool) → test x ≡ b → test (get_or (x ∷ xs) i d) ≡ true → ((j : ℕ) → j < length xs → test (get_or xs j d) ≡ true → is_some (index_of test xs) ≡ true) → i < length (x ∷ xs) → is_some (index_of test (x ∷ xs)) ≡ true
  some_by x xs i d true t e more lt = rw t refl
  some_by x xs zero d false t e more lt = absurd (let k : true ≡ false = sym e ∙ t in cc)
  some_by x xs (suc i) d false t e more lt = rw t (still_some (index_of test xs) (more i (omega arith) e))

  pub some_index : (xs : List A) (i : ℕ) (d : A) → i < length xs → test (get_or xs i d) ≡ true → is_some (index_of test xs) ≡ true
  some_index [] i d lt e = absurd (omega arith)
  some_index (x ∷ xs) i d lt e = some_by x xs i d (test x) refl e (λ j. some_index xs j d) lt

  -- ---- one more item at the end

  new_by : (y x : A) (xs : List A) (b : Bool) → test x ≡ b → index_of test (x ∷ xs) ≡ None → (index_of test xs ≡ None → index_of test (xs ++ y ∷ []) ≡ Some (length xs)) → index_of test ((x ∷ xs) ++ y ∷ []) ≡ Some (length (x ∷ xs))
  new_by y x xs true t e more = absurd (let k : Some 0 ≡ None = (rw t at e) in cc)
  new_by y x xs false t e more = rw (t, more (no_index (index_of test xs) (rw t at e))) refl

  pub new_index : (y : A) (xs : List A) → test y ≡ true → index_of test xs ≡ None → index_of test (xs ++ y ∷ []) ≡ Some (length xs)
  new_index y [] t e = rw t refl
  new_index y (x ∷ xs) t e = new_by y x xs (test x) refl e (new_index y xs t)

  old_by : (y x : A) (xs : List A) (b : Bool) → test x ≡ b → index_of test (xs ++ y ∷ []) ≡ index_of test xs → index_of test ((x ∷ xs) ++ y ∷ []) ≡ index_of test (x ∷ xs)
  old_by y x xs true t more = rw t refl
  old_by y x xs false t more = rw t (ap (option_map suc) more)

  pub old_index : (y : A) (xs : List A) → test y ≡ false → index_of test (xs ++ y ∷ []) ≡ index_of test xs
  old_index y [] t = rw t refl
  old_index y (x ∷ xs) t = old_by y x xs (test x) refl (old_index y xs t)

  -- who has an index keeps it
  kept_by : (y x : A) (xs : List A) (i : ℕ) (b : Bool) → test x ≡ b → index_of test (x ∷ xs) ≡ Some i → ((j : ℕ) → index_of test xs ≡ Some j → index_of test (xs ++ y ∷ []) ≡ Some j) → index_of test ((x ∷ xs) ++ y ∷ []) ≡ Some i
  kept_by y x xs zero true t e more = rw t refl
  kept_by y x xs (suc i) true t e more = absurd (not_later i (rw t at e))
  kept_by y x xs zero false t e more = absurd (not_first (index_of test xs) (rw t at e))
  kept_by y x xs (suc i) false t e more = rw (t, more i (next_index (index_of test xs) i (rw t at e))) refl

  pub kept_index : (y : A) (xs : List A) (i : ℕ) → index_of test xs ≡ Some i → index_of test (xs ++ y ∷ []) ≡ Some i
  kept_index y [] i e = absurd cc
  kept_index y (x ∷ xs) i e = kept_by y x xs i (test x) refl e (kept_index y xs)

  -- ---- one item less

  first_shift : (o : Option ℕ) → o ≡ option_map (shifted 0) (option_map suc o)
  first_shift None = refl
  first_shift (Some j) = ap Some (shift_first j)

  later_shift : (i : ℕ) (o : Option ℕ) → option_map suc (option_map (shifted i) o) ≡ option_map (shifted (suc i)) (option_map suc o)
  later_shift i None = refl
  later_shift i (Some j) = ap Some (shift_later i j)

  shift_by : (x : A) (xs : List A) (i : ℕ) (b : Bool) → test x ≡ b → index_of test (remove xs i) ≡ option_map (shifted i) (index_of test xs) → index_of test (x ∷ remove xs i) ≡ option_map (shifted (suc i)) (index_of test (x ∷ xs))
  shift_by x xs i true t more = rw t (ap Some (shift_none i))
  shift_by x xs i false t more = rw (t, more) (later_shift i (index_of test xs))

  pub shift_index : (xs : List A) (i : ℕ) (d : A) → i < length xs → test (get_or xs i d) ≡ false → index_of test (remove xs i) ≡ option_map (shifted i) (index_of test xs)
  shift_index [] i d lt t = absurd (omega arith)
  shift_index (x ∷ xs) zero d lt t = rw t (first_shift (index_of test xs))
  shift_index (x ∷ xs) (suc i) d lt t = shift_by x xs i (test x) refl (shift_index xs i d (omega arith) t)

  -- the other items are left as they are
  filter_by : (xs : List A) (i : ℕ) (d : A) → i < length xs → test (get_or xs i d) ≡ true → filter (λ x. not (test x)) (remove xs i) ≡ filter (λ x. not (test x)) xs
  filter_by [] i d lt t = absurd (omega arith)
  filter_by (x ∷ xs) zero d lt t = rw t refl
  filter_by (x ∷ xs) (suc i) d lt t = ap (λ ys. cond (not (test x)) (x ∷ ys) ys) (filter_by xs i d (omega arith) t)

  pub filter_remove : (xs : List A) (i : ℕ) → i < length xs → ((d : A) → test (get_or xs i d) ≡ true) → filter (λ x. not (test x)) (remove xs i) ≡ filter (λ x. not (test x)) xs
  filter_remove [] i lt t = absurd (omega arith)
  filter_remove (x ∷ xs) i lt t = filter_by (x ∷ xs) i x lt (t x)

  all_by : (x : A) (xs : List A) (b : Bool) → test x ≡ b → index_of test (x ∷ xs) ≡ None → (index_of test xs ≡ None → filter (λ x. not (test x)) xs ≡ xs) → filter (λ x. not (test x)) (x ∷ xs) ≡ x ∷ xs
  all_by x xs true t e more = absurd (let k : Some 0 ≡ None = (rw t at e) in cc)
  all_by x xs false t e more = rw t (ap (λ ys. x ∷ ys) (more (no_index (index_of test xs) (rw t at e))))

  -- where none passes, nothing is taken out
  pub filter_none : (xs : List A) → index_of test xs ≡ None → filter (λ x. not (test x)) xs ≡ xs
  filter_none [] e = refl
  filter_none (x ∷ xs) e = all_by x xs (test x) refl e (filter_none xs)

  -- ---- by a walk

  here_by : (x : A) (xs : List A) (i : ℕ) (d : A) (b : Bool) → test x ≡ b → index_of test (x ∷ take i xs) ≡ None → test (get_or xs i d) ≡ true → (index_of test (take i xs) ≡ None → index_of test xs ≡ Some i) → index_of test (x ∷ xs) ≡ Some (suc i)
  here_by x xs i d true t none e more = absurd (let k : Some 0 ≡ None = (rw t at none) in cc)
  here_by x xs i d false t none e more = rw (t, more (no_index (index_of test (take i xs)) (rw t at none))) refl

  pub index_here : (xs : List A) (i : ℕ) (d : A) → i < length xs → index_of test (take i xs) ≡ None → test (get_or xs i d) ≡ true → index_of test xs ≡ Some i
  index_here [] i d lt none e = absurd (omega arith)
  index_here (x ∷ xs) zero d lt none e = rw e refl
  index_here (x ∷ xs) (suc i) d lt none e = here_by x xs i d (test x) refl none e (λ n. index_here xs i d (omega arith) n e)

  pub none_yet : (xs : List A) (i : ℕ) (d : A) → i < length xs → index_of test (take i xs) ≡ None → test (get_or xs i d) ≡ false → index_of test (take (i + 1) xs) ≡ None
  none_yet xs i d lt none e = rw (add-one, take-suc xs i d lt) (old_index (get_or xs i d) (take i xs) e ∙ none)

-- an item of a list is changed by f, where those before it are
pub changed : {A : Type 0} (f : A → A) (xs : List A) (i : ℕ) (d : A) → i < length xs → set (map f (take i xs) ++ drop i xs) i (f (get_or xs i d)) ≡ map f (take (suc i) xs) ++ drop (suc i) xs
changed f [] i d lt = absurd (omega arith)
changed f (x ∷ xs) zero d lt = refl
changed f (x ∷ xs) (suc i) d lt = ap (λ ys. f x ∷ ys) (changed f xs i d (omega arith))

-- and is still itself before
pub unchanged : {A : Type 0} (f : A → A) (xs : List A) (i : ℕ) (d : A) → i < length xs → get_or (map f (take i xs) ++ drop i xs) i d ≡ get_or xs i d
unchanged f [] i d lt = absurd (omega arith)
unchanged f (x ∷ xs) zero d lt = refl
unchanged f (x ∷ xs) (suc i) d lt = unchanged f xs i d (omega arith)

-- one item less
pub length_remove : {A : Type 0} (xs : List A) (i : ℕ) → i < length xs → length (remove xs i) < length xs
length_remove [] i lt = absurd (omega arith)
length_remove (x ∷ xs) zero lt = omega arith
length_remove (x ∷ xs) (suc i) lt = omega (arith, length_remove xs i (omega arith))
