-- Items by number.
use Rattle.std.proofs.Common.{◌≡◌, ℕ, ◌<◌, ◌+◌, Bool, true, false, cond, not, List, [], ◌∷◌, ◌++◌, map, Option, Some, None, nat_cmp, Less, Greater, is_eq, refl, sym, ap, ◌∙◌, arith, true≢false}
use Rattle.std.specs.Map.{remove_entry}
use Rattle.std.specs.List.{AllByRecursion}
use Rattle.std.specs.List.Sorted.{IsStrictlySortedBy}
use Rattle.std.specs.BTreeMap.{insert_entry}
use Rattle.std.proofs.lemmas.Bool.Decides.{nat_tests}
use Rattle.std.proofs.lemmas.Map.Keys.{sorted_head, sorted_tail}
use Rattle.hall_index.specs.Numbered.{is_number, item_at, without, but, AreBelow, AreLess}

pub number_order : (n k : ℕ) → k < n → nat_cmp n k ≡ Greater
number_order n k below = grind (arith, nat_tests, below)

pub number_below : (n k : ℕ) → k < n → is_number n k ≡ false
number_below n k below = ap is_eq (number_order n k below)

pub number_above : (n k : ℕ) → nat_cmp k n ≡ Less → is_number k n ≡ false
number_above n k above = ap is_eq above

pub number_self : (n : ℕ) → is_number n n ≡ true
number_self n = grind (arith, nat_tests)

pub number_same : (n k : ℕ) → is_number n k ≡ true → n ≡ k
number_same n k e = grind (arith, nat_tests, e)

module _ {T : Type 0} where
  -- an item with a number above all others stands last
  pub insert_last : (n : ℕ) (v : T) (es : List (ℕ × T)) → AreBelow n es → insert_entry nat_cmp es n v ≡ es ++ (n, v) ∷ []
  insert_last n v [] below = refl
  insert_last n v (e ∷ es) below = rw (number_order n e.0 below.0) (ap (λ (l : List (ℕ × T)). e ∷ l) (insert_last n v es below.1))

  pub none_below : (n : ℕ) (es : List (ℕ × T)) → AreBelow n es → item_at n es ≡ None
  none_below n [] below = refl
  none_below n (e ∷ es) below = rw (number_below n e.0 below.0) (none_below n es below.1)

  pub without_below : (n : ℕ) (es : List (ℕ × T)) → AreBelow n es → without n es ≡ es
  without_below n [] below = refl
  without_below n (e ∷ es) below = rw (number_below n e.0 below.0) (ap (λ (l : List (ℕ × T)). e ∷ l) (without_below n es below.1))

  none_left : (n k : ℕ) (es : List (ℕ × T)) → n ≡ k → AllByRecursion (λ y. nat_cmp k y ≡ Less) (map (λ (e : ℕ × T). e.0) es) → without n es ≡ es
  none_left n k [] same all = refl
  none_left n k (e ∷ es) same all = rw (ap (λ x. is_number x e.0) same ∙ number_above e.0 k all.0) (ap (λ (l : List (ℕ × T)). e ∷ l) (none_left n k es same all.1))

  -- what a tree's removal leaves
  pub removed : (n : ℕ) (es : List (ℕ × T)) → IsStrictlySortedBy nat_cmp (map (λ (e : ℕ × T). e.0) es) → remove_entry (is_number n) es ≡ without n es
  removed n [] sorted = refl
  removed n (e ∷ es) sorted = by (is_number n e.0) refl (removed n es (sorted_tail nat_cmp e.0 (map (λ (x : ℕ × T). x.0) es) sorted))
    where
      by : (b : Bool) → is_number n e.0 ≡ b → remove_entry (is_number n) es ≡ without n es → cond b es (e ∷ remove_entry (is_number n) es) ≡ cond (not b) (e ∷ without n es) (without n es)
      by true t more = sym (none_left n e.0 es (number_same n e.0 t) (sorted_head nat_cmp e.0 (map (λ (x : ℕ × T). x.0) es) sorted))
      by false t more = ap (λ (l : List (ℕ × T)). e ∷ l) more

  pub item_gone : (n : ℕ) (es : List (ℕ × T)) → item_at n (without n es) ≡ None
  item_gone n [] = refl
  item_gone n (e ∷ es) = by (is_number n e.0) refl (item_gone n es)
    where
      by : (b : Bool) → is_number n e.0 ≡ b → item_at n (without n es) ≡ None → item_at n (cond (not b) (e ∷ without n es) (without n es)) ≡ None
      by true t more = more
      by false t more = rw t more

  nothing : (b : Bool) (o : Option T) → o ≡ None → o ≡ cond b None o
  nothing true o e = e
  nothing false o e = refl

  -- the other items stay
  pub item_without : (n k : ℕ) (es : List (ℕ × T)) → item_at k (without n es) ≡ cond (is_number n k) None (item_at k es)
  item_without n k [] = nothing (is_number n k) (item_at k []) refl
  item_without n k (e ∷ es) = by (is_number n e.0) (is_number k e.0) refl refl (item_without n k es)
    where
      kept : (b : Bool) → is_number n e.0 ≡ false → is_number k e.0 ≡ true → is_number n k ≡ b → Some e.1 ≡ cond b None (Some e.1)
      kept true s t u = absurd (true≢false (sym u ∙ ap (is_number n) (number_same k e.0 t) ∙ s))
      kept false s t u = refl

      gone : (b : Bool) → is_number n e.0 ≡ true → is_number k e.0 ≡ true → is_number n k ≡ b → cond b None (item_at k es) ≡ cond b None (Some e.1)
      gone true s t u = refl
      gone false s t u = absurd (true≢false (sym s ∙ ap (is_number n) (sym (number_same k e.0 t)) ∙ u))

      by : (b c : Bool) → is_number n e.0 ≡ b → is_number k e.0 ≡ c → item_at k (without n es) ≡ cond (is_number n k) None (item_at k es)
          → item_at k (cond (not b) (e ∷ without n es) (without n es)) ≡ cond (is_number n k) None (cond c (Some e.1) (item_at k es))
      by true true s t more = more ∙ gone (is_number n k) s t refl
      by true false s t more = more
      by false true s t more = rw t (kept (is_number n k) s t refl)
      by false false s t more = rw t more

  pub item_more : (n k : ℕ) (v : T) (es : List (ℕ × T)) → k < n → item_at k (es ++ (n, v) ∷ []) ≡ item_at k es
  item_more n k v [] below = rw (other k n below) refl
    where
      other : (k n : ℕ) → k < n → is_number k n ≡ false
      other k n lt = grind (arith, nat_tests, lt)
  item_more n k v (e ∷ es) below = ap (cond (is_number k e.0) (Some e.1)) (item_more n k v es below)

  pub item_last : (n : ℕ) (v : T) (es : List (ℕ × T)) → AreBelow n es → item_at n (es ++ (n, v) ∷ []) ≡ Some v
  item_last n v [] below = rw (number_self n) refl
  item_last n v (e ∷ es) below = rw (number_below n e.0 below.0) (item_last n v es below.1)

  pub without_last : (n : ℕ) (v : T) (es : List (ℕ × T)) → AreBelow n es → without n (es ++ (n, v) ∷ []) ≡ es
  without_last n v [] below = rw (number_self n) refl
  without_last n v (e ∷ es) below = rw (number_below n e.0 below.0) (ap (λ (l : List (ℕ × T)). e ∷ l) (without_last n v es below.1))

  pub without_twice : (n : ℕ) (es : List (ℕ × T)) → without n (without n es) ≡ without n es
  without_twice n [] = refl
  without_twice n (e ∷ es) = by (is_number n e.0) refl (without_twice n es)
    where
      by : (b : Bool) → is_number n e.0 ≡ b → without n (without n es) ≡ without n es → without n (cond (not b) (e ∷ without n es) (without n es)) ≡ cond (not b) (e ∷ without n es) (without n es)
      by true t more = more
      by false t more = rw t (ap (λ (l : List (ℕ × T)). e ∷ l) more)

  -- what is below a number is below the next
  pub below_more : (n : ℕ) (v : T) (es : List (ℕ × T)) → AreBelow n es → AreBelow (n + 1) (es ++ (n, v) ∷ [])
  below_more n v [] below = (omega arith, tt)
  below_more n v (e ∷ es) below = let first = below.0 in (omega (arith, first), below_more n v es below.1)

  pub below_next : (n : ℕ) (es : List (ℕ × T)) → AreBelow n es → AreBelow (n + 1) es
  below_next n [] below = tt
  below_next n (e ∷ es) below = let first = below.0 in (omega (arith, first), below_next n es below.1)

  below_by : (n k : ℕ) (e : ℕ × T) (b : Bool) (es : List (ℕ × T)) → e.0 < n → AreBelow n es → AreBelow n (cond b (e ∷ es) es)
  below_by n k e true es first rest = (first, rest)
  below_by n k e false es first rest = rest

  pub below_without : (n k : ℕ) (es : List (ℕ × T)) → AreBelow n es → AreBelow n (without k es)
  below_without n k [] below = tt
  below_without n k (e ∷ es) below = below_by n k e (not (is_number k e.0)) (without k es) below.0 (below_without n k es below.1)

pub less_more : (n : ℕ) (ns : List ℕ) → AreLess n ns → AreLess (n + 1) (ns ++ n ∷ [])
less_more n [] less = (omega arith, tt)
less_more n (k ∷ ns) less = let first = less.0 in (omega (arith, first), less_more n ns less.1)

pub less_next : (n : ℕ) (ns : List ℕ) → AreLess n ns → AreLess (n + 1) ns
less_next n [] less = tt
less_next n (k ∷ ns) less = let first = less.0 in (omega (arith, first), less_next n ns less.1)

less_by : (n k : ℕ) (b : Bool) (ns : List ℕ) → k < n → AreLess n ns → AreLess n (cond b (k ∷ ns) ns)
less_by n k true ns first rest = (first, rest)
less_by n k false ns first rest = rest

pub less_but : (n k : ℕ) (ns : List ℕ) → AreLess n ns → AreLess n (but k ns)
less_but n k [] less = tt
less_but n k (m ∷ ns) less = less_by n m (not (is_number k m)) (but k ns) less.0 (less_but n k ns less.1)

pub but_last : (n : ℕ) (ns : List ℕ) → AreLess n ns → but n (ns ++ n ∷ []) ≡ ns
but_last n [] less = rw (number_self n) refl
but_last n (k ∷ ns) less = rw (number_below n k less.0) (ap (λ (l : List ℕ). k ∷ l) (but_last n ns less.1))
