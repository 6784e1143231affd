-- Lists after one write, after two, and after a swap.
use Rattle.std.proofs.Common.{◌≡◌, ◌≢◌, ◌⊎◌, ℕ, zero, suc, ◌<◌, ◌≤◌, ◌-◌, Bool, true, false, ◌||◌, List, [], ◌∷◌, length, take, set, get_or, arith, refl, ap, sym, inl, inr, get_or-set_same, get_or-set_other, length-set}
use Rattle.std.proofs.lemmas.Bool.Decides.{eqb_tells}
use Rattle.std.proofs.lemmas.List.Edits.{swap_is}
use Rattle.std.specs.List.{swap, list_any}

-- what holds of the new element and of the old ones
pub at_one : {A : Type 0} (P : ℕ → A → Type 0) (xs : List A) (p : ℕ) (x d : A) → p < length xs → P p x → (k : ℕ) → (k ≢ p → P k (get_or xs k d)) → P k (get_or (set xs p x) k d)
at_one P xs p x d lt new k old = elim (eqb_tells k p) [
  | inl e ↦ rw e.1 (rw get_or-set_same new)
  | inr e ↦ (let ne = e.1 in rw get_or-set_other (old ne))
]

pub at_user : {A : Type 0} (xs : List A) (u : ℕ) (a b d : A) → u < 2 → length xs ≡ 2 → get_or (set (set xs u a) (1 - u) b) u d ≡ a
at_user {A} xs u a b d h l =
    let other : u ≢ 1 - u = omega arith in
    let lt : u < length xs = omega arith in
    rw get_or-set_other (rw get_or-set_same)

pub at_foe : {A : Type 0} (xs : List A) (u : ℕ) (a b d : A) → u < 2 → length xs ≡ 2 → get_or (set (set xs u a) (1 - u) b) (1 - u) d ≡ b
at_foe {A} xs u a b d h l =
    let lt : 1 - u < length (set xs u a) = omega (arith, length-set {A = A}) in
    rw get_or-set_same

pub which_of : (u s : ℕ) → u < 2 → s < 2 → (s ≡ u) ⊎ (s ≡ 1 - u)
which_of zero zero h k = inl (omega arith)
which_of zero (suc s) h k = inr (omega arith)
which_of (suc u) zero h k = inr (omega arith)
which_of (suc u) (suc s) h k = inl (omega arith)

-- what holds of both new elements, each at its index, holds of each
pub at_both : {A : Type 0} (P : ℕ → A → Type 0) (xs : List A) (u : ℕ) (a b d : A) → u < 2 → length xs ≡ 2 → P u a → P (1 - u) b → (s : ℕ) → s < 2 → P s (get_or (set (set xs u a) (1 - u) b) s d)
at_both {A} P xs u a b d h l pa pb s k =
    elim (which_of u s h k) [
      | inl e ↦ rw e (rw (at_user xs u a b d h l) pa)
      | inr e ↦ rw e (rw (at_foe xs u a b d h l) pb)
    ]

first-kept : (old new more : Bool) → (old ≡ true → new ≡ true) → (old || more) ≡ true → (new || more) ≡ true
first-kept true new more keeps h = rw (keeps refl)
first-kept false true more keeps h = refl
first-kept false false more keeps h = h

rest-kept : (first old new : Bool) → (old ≡ true → new ≡ true) → (first || old) ≡ true → (first || new) ≡ true
rest-kept true old new keeps h = refl
rest-kept false old new keeps h = keeps h

-- a new element that passes where the old one did lets no test of the list fail
pub any-set : {A : Type 0} (f : A → Bool) (xs : List A) (n p : ℕ) (x d : A) → (f (get_or xs p d) ≡ true → f x ≡ true) → list_any f (take n xs) ≡ true → list_any f (take n (set xs p x)) ≡ true
any-set f [] n p x d keeps h = h
any-set f (y ∷ ys) zero p x d keeps h = h
any-set f (y ∷ ys) (suc n) zero x d keeps h = first-kept (f y) (f x) _ keeps h
any-set f (y ∷ ys) (suc n) (suc p) x d keeps h = rest-kept (f y) _ _ (any-set f ys n p x d keeps) h

-- what holds of each element after a swap of the first and the p-th
pub at_swap : (P : ℕ → ℕ → Type 0) (xs : List ℕ) (p : ℕ) → p < length xs → P 0 (get_or xs p 0) → P p (get_or xs 0 0) → (k : ℕ) → (k ≢ 0 → k ≢ p → P k (get_or xs k 0)) → P k (get_or (swap xs 0 p) k 0)
at_swap P xs p lt first second k other =
    let long : 0 < length xs = omega arith in
    rw (← swap_is xs 0 p 0 long lt)
    (at_one P (set xs 0 (get_or xs p 0)) p (get_or xs 0 0) 0 (omega (arith, length-set {A = ℕ})) second k
    (λ ne. at_one P xs 0 (get_or xs p 0) 0 long first k (λ nz. other nz ne)))

-- a swap keeps numbers below a bound
pub swap-below : (xs : List ℕ) (p n : ℕ) → p < n → n ≤ length xs → ((k : ℕ) → k < n → get_or xs k 0 < n) → (k : ℕ) → k < n → get_or (swap xs 0 p) k 0 < n
swap-below xs p n lt long below k h =
    at_swap (λ _ x. x < n) xs p (omega arith) (below p lt) (below 0 (omega arith)) k (λ _ _. below k h)

-- the p-th stands first
pub swap-first : (xs : List ℕ) (p : ℕ) → p < length xs → get_or (swap xs 0 p) 0 0 ≡ get_or xs p 0
swap-first xs p lt =
    at_swap (λ i x. i ≡ 0 → x ≡ get_or xs p 0) xs p lt (λ _. refl) (λ e. ap (λ i. get_or xs i 0) (sym e)) 0 (λ ne _. absurd (ne refl)) refl

-- a swap keeps numbers that differ apart
pub swap-once : (xs : List ℕ) (p n : ℕ) → p < n → n ≤ length xs → ((j k : ℕ) → j < n → k < n → get_or xs j 0 ≡ get_or xs k 0 → j ≡ k) → (j k : ℕ) → j < n → k < n → get_or (swap xs 0 p) j 0 ≡ get_or (swap xs 0 p) k 0 → j ≡ k
swap-once xs p n lt long once j k hj hk =
    let inside : p < length xs = omega arith in
    let low : 0 < n = omega arith in
    at_swap (λ i x. i < n → x ≡ get_or (swap xs 0 p) k 0 → i ≡ k) xs p inside
    (λ _. at_swap (λ i x. i < n → get_or xs p 0 ≡ x → 0 ≡ i) xs p inside (λ _ _. refl) (λ _ e. sym (once p 0 lt low e)) k (λ nz np h e. absurd (np (sym (once p k lt h e)))) hk)
    (λ _. at_swap (λ i x. i < n → get_or xs 0 0 ≡ x → p ≡ i) xs p inside (λ _ e. sym (once 0 p low lt e)) (λ _ _. refl) k (λ nz np h e. absurd (nz (sym (once 0 k low h e)))) hk)
    j (λ jz jp _. at_swap (λ i x. i < n → get_or xs j 0 ≡ x → j ≡ i) xs p inside (λ _ e. absurd (jp (once j p hj lt e))) (λ _ e. absurd (jz (once j 0 hj low e))) k (λ _ _ h e. once j k hj h e) hk) hj
