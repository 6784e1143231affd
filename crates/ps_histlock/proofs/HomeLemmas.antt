-- The names behind a lock.
use Rattle.std.proofs.Common.{◌≡◌, ◌<◌, ℕ, List, [], ◌∷◌, ◌++◌, length, Bool, true, false, cond, eqb, Option, Some, None, refl, sym, ap, subst, ◌∙◌, arith, append-nil, length-append}
use Rattle.std.proofs.lemmas.Bool.{eqb-true, ltb-true}
use Rattle.std.specs.Prelude.{MatchBool, nat_lt}
use Rattle.std.specs.Ordering.{nat_cmp, is_eq}
use Rattle.std.specs.declared.cmp.Ordering.TheVariants.{Less, Equal, Greater}
use Rattle.std.specs.BTreeSet.{BTreeSet, contains}
use Rattle.ps_histlock.specs.Histories.{signed, says}
use Rattle.ps_histlock.specs.Homes.{AreNames}
use Rattle.ps_histlock.proofs.Lists.{signed-append, signed_other}

-- two numbers that compare equal are one
is_at : (n c : ℕ) (less same : Bool) → nat_lt n c ≡ less → eqb n c ≡ same → is_eq (nat_cmp n c) ≡ eqb n c
is_at n c true true lt e = absurd (let l = ltb-true n c lt in let i = eqb-true n c e in omega arith)
is_at n c true false lt e = ap (λ (b : Bool). is_eq (cond b Less (cond (eqb n c) Equal Greater))) lt ∙ sym e
is_at n c false true lt e = ap (λ (b : Bool). is_eq (cond b Less (cond (eqb n c) Equal Greater))) lt ∙ ap (λ (b : Bool). is_eq (cond b Equal Greater)) e ∙ sym e
is_at n c false false lt e = ap (λ (b : Bool). is_eq (cond b Less (cond (eqb n c) Equal Greater))) lt ∙ ap (λ (b : Bool). is_eq (cond b Equal Greater)) e ∙ sym e

pub number_at : (n c : ℕ) → is_eq (nat_cmp n c) ≡ eqb n c
number_at n c = is_at n c (nat_lt n c) (eqb n c) refl refl

module _ {C : Type 0} (signer : C → Option ℕ) where
  -- a command that nobody has signed adds to no name
  pub unsigned : (c : ℕ) (log : List C) (x : C) → signer x ≡ None → signed signer c (log ++ x ∷ []) ≡ signed signer c log
  unsigned c log x is = signed-append signer c log (x ∷ []) ∙ ap (λ l. signed signer c log ++ l) (signed_other signer c x (ap (says c) is)) ∙ append-nil _

  -- one signed by another name adds nothing to this one
  signed_else : (c n : ℕ) (log : List C) (x : C) → signer x ≡ Some n → eqb n c ≡ false → signed signer c (log ++ x ∷ []) ≡ signed signer c log
  signed_else c n log x is apart = signed-append signer c log (x ∷ []) ∙ ap (λ l. signed signer c log ++ l) (signed_other signer c x (ap (says c) is ∙ apart)) ∙ append-nil _

  -- more commands take away none that is signed by a name
  pub more_signed : (c : ℕ) (xs ys : List C) → 0 < length (signed signer c xs) → 0 < length (signed signer c (xs ++ ys))
  more_signed c xs ys some_left =
      let e = ap length (signed-append signer c xs ys) ∙ length-append (signed signer c xs) (signed signer c ys) in omega arith

  -- one signed by a name is there
  pub one_signed : (c : ℕ) (log : List C) (x : C) → says c (signer x) ≡ true → 0 < length (signed signer c (log ++ x ∷ []))
  one_signed c log x is =
      let one : length (signed signer c (x ∷ [])) ≡ 1 = ap (λ (b : Bool). length (cond b (x ∷ []) [])) is in
      let e = ap length (signed-append signer c log (x ∷ [])) ∙ length-append (signed signer c log) (signed signer c (x ∷ [])) in omega arith

  -- the names of the same commands
  pub names_as : (log : List C) (old new : BTreeSet ℕ) → ((c : ℕ) → contains nat_cmp new c ≡ contains nat_cmp old c) → AreNames signer log old → AreNames signer log new
  names_as log old new same are = λ c. subst (λ (b : Bool). MatchBool b (0 < length (signed signer c log)) (signed signer c log ≡ [])) (sym (same c)) (are c)

  -- a command that nobody has signed
  pub names_unsigned : (log : List C) (x : C) (names : BTreeSet ℕ) → signer x ≡ None → AreNames signer log names → AreNames signer (log ++ x ∷ []) names
  names_unsigned log x names is are = λ c. subst (λ (l : List C). MatchBool (contains nat_cmp names c) (0 < length l) (l ≡ [])) (sym (unsigned c log x is)) (are c)

  -- the name of the command is added
  added_at : (c n : ℕ) (log : List C) (x : C) (old new : BTreeSet ℕ) → signer x ≡ Some n → contains nat_cmp new c ≡ cond (eqb n c) true (contains nat_cmp old c) → AreNames signer log old
      → (b : Bool) → eqb n c ≡ b → MatchBool (contains nat_cmp new c) (0 < length (signed signer c (log ++ x ∷ []))) (signed signer c (log ++ x ∷ []) ≡ [])
  added_at c n log x old new is after are true e = subst (λ (b : Bool). MatchBool b (0 < length (signed signer c (log ++ x ∷ []))) (signed signer c (log ++ x ∷ []) ≡ [])) (sym (after ∙ ap (λ (b : Bool). cond b true (contains nat_cmp old c)) e)) (one_signed c log x (ap (says c) is ∙ e))
  added_at c n log x old new is after are false e = subst (λ (b : Bool). MatchBool b (0 < length (signed signer c (log ++ x ∷ []))) (signed signer c (log ++ x ∷ []) ≡ [])) (sym (after ∙ ap (λ (b : Bool). cond b true (contains nat_cmp old c)) e)) (subst (λ (l : List C). MatchBool (contains nat_cmp old c) (0 < length l) (l ≡ [])) (sym (signed_else c n log x is e)) (are c))

  pub names_added : (n : ℕ) (log : List C) (x : C) (old new : BTreeSet ℕ) → signer x ≡ Some n → ((c : ℕ) → contains nat_cmp new c ≡ cond (eqb n c) true (contains nat_cmp old c)) → AreNames signer log old → AreNames signer (log ++ x ∷ []) new
  names_added n log x old new is after are = λ c. added_at c n log x old new is (after c) are (eqb n c) refl

  -- it was there
  known_at : (c n : ℕ) (names : BTreeSet ℕ) → contains nat_cmp names n ≡ true → (b : Bool) → eqb n c ≡ b → contains nat_cmp names c ≡ cond b true (contains nat_cmp names c)
  known_at c n names here true e = ap (λ m. contains nat_cmp names m) (sym (eqb-true n c e)) ∙ here
  known_at c n names here false e = refl

  pub names_known : (n : ℕ) (log : List C) (x : C) (names : BTreeSet ℕ) → signer x ≡ Some n → contains nat_cmp names n ≡ true → AreNames signer log names → AreNames signer (log ++ x ∷ []) names
  names_known n log x names is here are = names_added n log x names names is (λ c. known_at c n names here (eqb n c) refl) are

-- a name that was not there was added and taken away
pub taken_away : (n : ℕ) (old mid new : BTreeSet ℕ) → contains nat_cmp old n ≡ false → ((c : ℕ) → contains nat_cmp mid c ≡ cond (eqb n c) true (contains nat_cmp old c)) → ((c : ℕ) → contains nat_cmp new c ≡ cond (eqb n c) false (contains nat_cmp mid c))
    → (c : ℕ) (b : Bool) → eqb n c ≡ b → contains nat_cmp new c ≡ contains nat_cmp old c
taken_away n old mid new absent added removed c true e = removed c ∙ ap (λ (b : Bool). cond b false (contains nat_cmp mid c)) e ∙ sym absent ∙ ap (λ m. contains nat_cmp old m) (eqb-true n c e)
taken_away n old mid new absent added removed c false e = removed c ∙ ap (λ (b : Bool). cond b false (contains nat_cmp mid c)) e ∙ added c ∙ ap (λ (b : Bool). cond b true (contains nat_cmp old c)) e
