-- Lists of posts, and lists of views in which one view is changed or added.
use Rattle.std.proofs.Common.{◌≡◌, ◌≢◌, ◌⊎◌, ℕ, zero, suc, List, [], ◌∷◌, ◌++◌, length, refl, ap, sym, ◌∙◌, inl, inr, append-nil, append_assoc, Bool, true, false, true≢false, cond, eqb, eq-eqb, ne_eqb, ⊎_elim, All}
use Rattle.std.proofs.lemmas.List.Elements.{All-head, All-tail}
use mathlib.Core.Option.{some, some-injective, some-ne-none}
use lib.ListN.{get_elem?}
use Rattle.ps_mailbox.specs.declared.view.Numbered.{Numbered}
use Rattle.ps_mailbox.specs.Posts.{posts_of}

pub off : false ≡ true → ⊥
off e = true≢false (sym e)

module _ {A : Type 0} where
  -- what stands in a list that has one more at its end
  pub at_end : (l : List A) (a b : A) (j : ℕ) → get_elem? (l ++ a ∷ []) j ≡ some b → (get_elem? l j ≡ some b) ⊎ ((j ≡ length l) × (a ≡ b))
  at_end [] a b zero e = inr (refl, some-injective a b e)
  at_end [] a b (suc j) e = absurd (some-ne-none b (sym e))
  at_end (x ∷ xs) a b zero e = inl e
  at_end (x ∷ xs) a b (suc j) e = ⊎_elim (λ t. inl t) (λ (t : (j ≡ length xs) × (a ≡ b)). inr (ap suc t.0, t.1)) (at_end xs a b j e)

  -- what holds of all holds of the last
  pub of_last : (P : A → Type 0) (xs : List A) (x : A) → All P (xs ++ x ∷ []) → P x
  of_last P [] x all = All-head P x [] all
  of_last P (y ∷ ys) x all = of_last P ys x (All-tail P y (ys ++ x ∷ []) all)

module _ {T : Type 0} where
  posts_of_cons : (n : ℕ) (x : Numbered T) (xs : List (Numbered T)) (b : Bool) → eqb x.number n ≡ b → posts_of n (x ∷ xs) ≡ cond b (x.post ∷ posts_of n xs) (posts_of n xs)
  posts_of_cons n x xs b is = ap (λ (t : Bool). cond t (x.post ∷ posts_of n xs) (posts_of n xs)) is

  posts_of_more : (n : ℕ) (x : Numbered T) (xs ys : List (Numbered T)) (b : Bool) → eqb x.number n ≡ b → posts_of n (xs ++ ys) ≡ posts_of n xs ++ posts_of n ys
      → posts_of n ((x ∷ xs) ++ ys) ≡ posts_of n (x ∷ xs) ++ posts_of n ys
  posts_of_more n x xs ys true is rest = posts_of_cons n x (xs ++ ys) true is ∙ ap (λ w. x.post ∷ w) rest ∙ sym (ap (λ w. w ++ posts_of n ys) (posts_of_cons n x xs true is))
  posts_of_more n x xs ys false is rest = posts_of_cons n x (xs ++ ys) false is ∙ rest ∙ sym (ap (λ w. w ++ posts_of n ys) (posts_of_cons n x xs false is))

  pub posts_of-append : (n : ℕ) (xs ys : List (Numbered T)) → posts_of n (xs ++ ys) ≡ posts_of n xs ++ posts_of n ys
  posts_of-append n [] ys = refl
  posts_of-append n (x ∷ xs) ys = posts_of_more n x xs ys (eqb x.number n) refl (posts_of-append n xs ys)

  pushed : (n : ℕ) (taken items : List (Numbered T)) (x : Numbered T) → posts_of n (taken ++ (items ++ x ∷ [])) ≡ posts_of n (taken ++ items) ++ posts_of n (x ∷ [])
  pushed n taken items x = ap (posts_of n) (sym (append_assoc taken items (x ∷ []))) ∙ posts_of-append n (taken ++ items) (x ∷ [])

  -- a push under another number
  pub posts_of_other : (n : ℕ) (taken items : List (Numbered T)) (x : Numbered T) → x.number ≢ n → posts_of n (taken ++ (items ++ x ∷ [])) ≡ posts_of n (taken ++ items)
  posts_of_other n taken items x ne =
      pushed n taken items x ∙ ap (λ l. posts_of n (taken ++ items) ++ l) (posts_of_cons n x [] false (ne_eqb x.number n ne)) ∙ append-nil (posts_of n (taken ++ items))

  -- a push under this number
  pub posts_of_own : (n : ℕ) (taken items : List (Numbered T)) (x : Numbered T) → x.number ≡ n → posts_of n (taken ++ (items ++ x ∷ [])) ≡ posts_of n (taken ++ items) ++ x.post ∷ []
  posts_of_own n taken items x is = pushed n taken items x ∙ ap (λ l. posts_of n (taken ++ items) ++ l) (posts_of_cons n x [] true (eq-eqb x.number n is))
