-- The laws of levels.
use Rattle.std.proofs.Common.{◌≡◌, ℕ, ◌+◌, ◌-◌, ◌*◌, ◌<◌, ◌≤◌, ◌&&◌, ◌||◌, true, false, not, eqb, ltb, leb, List, [], ◌∷◌, ◌++◌, length, refl, sym, ap, ◌∙◌, inl, inr, ◌⊎◌, arith}
use Rattle.std.specs.List.{list_all}
use Rattle.std.proofs.lemmas.Bool.{ltb-true, lt-ltb, leb-true, le-leb, cases_lt, ne_eqb, and_parts, or_cases, and_from, or_left, or_right}
use Rattle.std.proofs.lemmas.List.{length-append, append-nil, nil_from_length}
use Rattle.std.proofs.lemmas.List.Folds.{list_all-append}
use Rattle.ps_packed.specs.Forms.{are_digits, number_after, number_of, is_number, is_level, level, in_form}
use Rattle.ps_packed.specs.Scan.{prefix_ok, need, level_need}
use Rattle.ps_packed.proofs.Truths.{all_front, at_most_one}
use Rattle.ps_packed.proofs.Laws.{Laws, is_inner}

-- ---- numbers

pub number_append : (n : ℕ) (w r : List ℕ) → number_after n (w ++ r) ≡ number_after (number_after n w) r
number_append n [] r = refl
number_append n (c ∷ w) r = number_append (10 * n + (c - 48)) w r

pub number_grows : (n : ℕ) (w : List ℕ) → n ≤ number_after n w
number_grows n [] = omega arith
number_grows n (c ∷ w) = omega (arith, number_grows (10 * n + (c - 48)) w)

pub record IsNumber (most : ℕ) (p : List ℕ) : Type 0 where
  pub digits : are_digits p ≡ true
  pub short : length p ≤ 3
  pub small : number_of p ≤ most

pub number_facts : (most : ℕ) (p : List ℕ) → is_number most p ≡ true → IsNumber most p
number_facts most p e =
    let a = and_parts (are_digits p && leb (length p) 3) (leb (number_of p) most) e in
    let b = and_parts (are_digits p) (leb (length p) 3) a.0 in
    record { digits = b.0; short = leb-true _ _ b.1; small = leb-true _ _ a.1 }

pub number_made : (most : ℕ) (p : List ℕ) → IsNumber most p → is_number most p ≡ true
number_made most p f = and_from _ _ (and_from _ _ f.digits (le-leb _ _ f.short)) (le-leb _ _ f.small)

pub number_front : (most : ℕ) (p r : List ℕ) → is_number most (p ++ r) ≡ true → is_number most p ≡ true
number_front most p r e =
    let f = number_facts most (p ++ r) e in
    let grows : number_of p ≤ number_of (p ++ r) = rw (number_append 0 p r) (number_grows (number_of p) r) in
    number_made most p (record {
      digits = (all_front (λ c. leb 48 c && leb c 57) p r f.digits).0;
      short = omega (arith, f.short, length-append p r);
      small = omega (arith, f.small, grows);
    })

pub digits_inner : (w : List ℕ) → are_digits w ≡ true → list_all is_inner w ≡ true
digits_inner [] e = refl
digits_inner (c ∷ cs) e =
    let a = and_parts (leb 48 c && leb c 57) (are_digits cs) e in
    let h = and_parts (leb 48 c) (leb c 57) a.0 in
    let le : c ≤ 57 = leb-true _ _ h.1 in
    let x : eqb c 124 ≡ false = ne_eqb _ _ (λ z. omega (arith, z, le)) in
    let y : eqb c 93 ≡ false = ne_eqb _ _ (λ z. omega (arith, z, le)) in
    and_from _ _ (and_from _ _ (ap not x) (ap not y)) (digits_inner cs a.1)

-- ---- levels

pub record IsLevel (w : List ℕ) : Type 0 where
  pub number : IsNumber 100 w
  pub some : 1 ≤ number_of w

pub level_facts : (c : ℕ) (w : List ℕ) → is_level (c ∷ w) ≡ true → IsLevel (c ∷ w)
level_facts c w e = let a = and_parts (is_number 100 (c ∷ w)) (leb 1 (number_of (c ∷ w))) e in record { number = number_facts 100 (c ∷ w) a.0; some = leb-true _ _ a.1 }

pub level_made : (w : List ℕ) → IsLevel w → is_level w ≡ true
level_made [] f = refl
level_made (c ∷ w) f = and_from _ _ (number_made 100 (c ∷ w) f.number) (le-leb _ _ f.some)

record IsFront (w : List ℕ) : Type 0 where
  number : IsNumber 100 w
  goes_on : (length w < 3) ⊎ (1 ≤ number_of w)

front_facts : (w : List ℕ) → prefix_ok level w ≡ true → IsFront w
unfolding prefix_ok
front_facts w e =
    let a = and_parts (is_number 100 w) (ltb (length w) 3 || leb 1 (number_of w)) e in
    record {
      number = number_facts 100 w a.0;
      goes_on = elim (or_cases (ltb (length w) 3) (leb 1 (number_of w)) a.1) [ inl h ↦ inl (ltb-true _ _ h) | inr h ↦ inr (leb-true _ _ h) ];
    }

front_made : (w : List ℕ) → is_number 100 w ≡ true → (length w < 3) ⊎ (1 ≤ number_of w) → prefix_ok level w ≡ true
unfolding prefix_ok
front_made w e g = and_from _ _ e (elim g [
  | inl h ↦ or_left _ _ (lt-ltb _ _ h)
  | inr h ↦ or_right (ltb (length w) 3) _ (le-leb _ _ h)
])

-- a front as long as the text is the text
closed_some : (w r : List ℕ) → IsLevel (w ++ r) → prefix_ok level w ≡ true
closed_some w r f =
    front_made w (number_front 100 w r (number_made 100 (w ++ r) f.number)) (elim (cases_lt (length w) 3) [
      | inl h ↦ inl h
      | inr h ↦ (let nil : r ≡ [] = nil_from_length r (omega (arith, f.number.short, length-append w r, h)) in
          let same : w ++ r ≡ w = ap (λ (u : List ℕ). w ++ u) nil ∙ append-nil w in
          inr (omega (arith, f.some, ap number_of same)))
    ])

level_closed : (w r : List ℕ) → is_level (w ++ r) ≡ true → prefix_ok level w ≡ true
level_closed [] r e = front_made [] refl (inl (omega arith))
level_closed (c ∷ w) r e = closed_some (c ∷ w) r (level_facts c (w ++ r) e)

-- the digit 1 ends what is only zeros
level_one : (w : List ℕ) → IsFront w → number_of w ≡ 0 → IsLevel (w ++ 49 ∷ [])
level_one w f zeros =
    let n : number_of (w ++ 49 ∷ []) ≡ 1 = number_append 0 w (49 ∷ []) ∙ ap (λ k. number_after k (49 ∷ [])) zeros in
    let len = length-append w (49 ∷ []) in
    record {
      number = record {
        digits = list_all-append (λ c. leb 48 c && leb c 57) w (49 ∷ []) ∙ and_from _ _ f.number.digits refl;
        short = elim f.goes_on [ inl h ↦ omega (arith, h, len) | inr h ↦ absurd (omega (arith, h, zeros)) ];
        small = omega (arith, n);
      };
      some = omega (arith, n);
    }

level_completes : (w : List ℕ) → prefix_ok level w ≡ true → (r : List ℕ) × (is_level (w ++ r) ≡ true) × (length r ≡ level_need w) × (list_all (λ c. ltb c 128) r ≡ true)
level_completes [] e = ([], refl, refl, refl)
level_completes (c ∷ w) e =
    let f = front_facts (c ∷ w) e in
    elim (cases_lt (number_of (c ∷ w)) 1) [
      | inl h ↦ (let zeros : number_of (c ∷ w) ≡ 0 = omega (arith, h) in
          (49 ∷ [], level_made ((c ∷ w) ++ 49 ∷ []) (level_one (c ∷ w) f zeros), sym (rw zeros refl), refl))
      | inr h ↦ (let some : eqb (number_of (c ∷ w)) 0 ≡ false = ne_eqb _ _ (λ z. omega (arith, z, h)) in
          ([], ap is_level (append-nil (c ∷ w)) ∙ level_made (c ∷ w) (record { number = f.number; some = h }), sym (rw some refl), refl))
    ]

need_small : (w : List ℕ) → level_need w ≤ 1
need_small [] = omega arith
need_small (c ∷ w) = at_most_one (eqb (number_of (c ∷ w)) 0)

level_full : (w : List ℕ) → is_level w ≡ true → level_need w ≡ 0
level_full [] e = refl
level_full (c ∷ w) e =
    let f = level_facts c w e in
    let some : eqb (number_of (c ∷ w)) 0 ≡ false = ne_eqb _ _ (λ z. omega (arith, z, f.some)) in
    rw some refl

level_plain : (w : List ℕ) → is_level w ≡ true → list_all is_inner w ≡ true
level_plain [] e = refl
level_plain (c ∷ w) e = digits_inner (c ∷ w) (level_facts c w e).number.digits

pub level_laws : Laws level
unfolding in_form need
level_laws = record {
  closed = level_closed;
  completes = level_completes;
  slow = λ w c e. omega (arith, need_small w);
  full = level_full;
  plain = level_plain;
}

-- what begins a level has three characters at most
pub level_short : (w : List ℕ) → prefix_ok level w ≡ true → length w ≤ 3
level_short w e = (front_facts w e).number.short
