-- The laws of six numbers between commas.
use Rattle.std.proofs.Common.{◌≡◌, ℕ, zero, suc, ◌+◌, ◌-◌, ◌≤◌, ◌==◌, ◌&&◌, Bool, true, false, not, cond, eqb, leb, ltb, eq-eqb, List, [], ◌∷◌, ◌++◌, length, refl, sym, ap, ◌∙◌, inl, inr, ◌⊎◌, arith, append_assoc}
use Rattle.std.specs.List.{list_all}
use Rattle.std.proofs.lemmas.Bool.{leb-true, le-leb, eqb-true, ne_eqb, and_parts, or_cases, and_from, or_left, or_right}
use Rattle.std.proofs.lemmas.List.{length-append, append-nil}
use Rattle.std.proofs.lemmas.List.Folds.{list_all-append}
use Rattle.std.proofs.Math.Bool.{and-false}
use Rattle.ps_packed.specs.Forms.{is_number, parts, is_spread_char, are_numbers, is_zero, is_spread, spread, in_form}
use Rattle.ps_packed.specs.Scan.{prefix_ok, need, spread_need}
use Rattle.ps_packed.proofs.Truths.{all_front}
use Rattle.ps_packed.proofs.Laws.{Laws, is_inner}
use Rattle.ps_packed.proofs.LevelLaws.{number_made, number_front}
use Rattle.ps_packed.proofs.MoveLaws.{Below, parts_below}
use Rattle.ps_packed.proofs.Splits.{split_snoc, pieces_grow}

pub empty_number : (most : ℕ) → is_number most [] ≡ true
empty_number most = number_made most [] (record { digits = refl; short = omega arith; small = omega arith })

parts_front : (most : ℕ) (ps qs : List (List ℕ)) → Below ps qs → list_all (is_number most) qs ≡ true → list_all (is_number most) ps ≡ true
parts_front most [] qs h e = refl
parts_front most (p ∷ ps) [] h e = absurd h
parts_front most (p ∷ ps) (q ∷ qs) h e =
    let a = and_parts (is_number most q) (list_all (is_number most) qs) e in
    and_from _ _ (number_front most p h.0 (sym (ap (is_number most) h.1) ∙ a.0)) (parts_front most ps qs h.2 a.1)

below_long : (ps qs : List (List ℕ)) → Below ps qs → length ps ≤ length qs
below_long [] qs h = omega arith
below_long (p ∷ ps) [] h = absurd h
below_long (p ∷ ps) (q ∷ qs) h = omega (arith, below_long ps qs h.2)

pub record AreNumbers (most : ℕ) (w : List ℕ) : Type 0 where
  pub chars : list_all is_spread_char w ≡ true
  pub each : list_all (is_number most) (parts w) ≡ true

pub numbers_facts : (most : ℕ) (w : List ℕ) → are_numbers most w ≡ true → AreNumbers most w
unfolding are_numbers
numbers_facts most w e = let a = and_parts (list_all is_spread_char w) (list_all (is_number most) (parts w)) e in record { chars = a.0; each = a.1 }

pub numbers_made : (most : ℕ) (w : List ℕ) → AreNumbers most w → are_numbers most w ≡ true
unfolding are_numbers
numbers_made most w f = and_from _ _ f.chars f.each

numbers_front : (most : ℕ) (w r : List ℕ) → are_numbers most (w ++ r) ≡ true → are_numbers most w ≡ true
numbers_front most w r e =
    let f = numbers_facts most (w ++ r) e in
    numbers_made most w (record { chars = (all_front is_spread_char w r f.chars).0; each = parts_front most (parts w) (parts (w ++ r)) (parts_below w r) f.each })

-- a front of six numbers, or of `0`
front_made : (zero_alone : Bool) (most : ℕ) (w : List ℕ) → are_numbers most w ≡ true → length (parts w) ≤ 6 → prefix_ok (spread zero_alone most) w ≡ true
unfolding prefix_ok
front_made zero_alone most w e le = and_from _ _ e (le-leb _ _ le)

pub zero_is : (w : List ℕ) → is_zero w ≡ true → w ≡ 48 ∷ []
zero_is [] e = absurd cc
zero_is (c ∷ []) e = ap (λ (d : ℕ). d ∷ []) (eqb-true _ _ e)
zero_is (c ∷ d ∷ w) e = absurd cc

zero_numbers : (most : ℕ) → are_numbers most (48 ∷ []) ≡ true
zero_numbers most = numbers_made most (48 ∷ []) (record { chars = refl; each = and_from _ _ (number_made most (48 ∷ []) (record { digits = refl; short = omega arith; small = omega arith })) refl })

zero_front : (zero_alone : Bool) (most : ℕ) (c : ℕ) (w r : List ℕ) → is_zero (c ∷ (w ++ r)) ≡ true → prefix_ok (spread zero_alone most) (c ∷ w) ≡ true
zero_front zero_alone most c [] r e =
    let same : c ∷ r ≡ 48 ∷ [] = zero_is (c ∷ r) e in
    let first : c ≡ 48 = cc in
    rw first (front_made zero_alone most (48 ∷ []) (zero_numbers most) (omega arith))
zero_front zero_alone most c (d ∷ w) r e = absurd cc

pub spread_cases : (zero_alone : Bool) (most : ℕ) (c : ℕ) (w : List ℕ) → is_spread zero_alone most (c ∷ w) ≡ true → ((zero_alone ≡ true) × (is_zero (c ∷ w) ≡ true)) ⊎ ((are_numbers most (c ∷ w) ≡ true) × (length (parts (c ∷ w)) ≡ 6))
spread_cases zero_alone most c w e = elim (or_cases (zero_alone && is_zero (c ∷ w)) (are_numbers most (c ∷ w) && length (parts (c ∷ w)) == 6) e) [
  | inl h ↦ inl (and_parts zero_alone (is_zero (c ∷ w)) h)
  | inr h ↦ (let a = and_parts (are_numbers most (c ∷ w)) (eqb (length (parts (c ∷ w))) 6) h in inr (a.0, eqb-true _ _ a.1))
]

spread_closed : (zero_alone : Bool) (most : ℕ) (w r : List ℕ) → is_spread zero_alone most (w ++ r) ≡ true → prefix_ok (spread zero_alone most) w ≡ true
spread_closed zero_alone most [] r e = front_made zero_alone most [] (numbers_made most [] (record { chars = refl; each = and_from _ _ (empty_number most) refl })) (omega arith)
spread_closed zero_alone most (c ∷ w) r e = elim (spread_cases zero_alone most c (w ++ r) e) [
  | inl h ↦ zero_front zero_alone most c w r h.1
  | inr h ↦ front_made zero_alone most (c ∷ w) (numbers_front most (c ∷ w) r h.0) (omega (arith, h.1, below_long (parts (c ∷ w)) (parts ((c ∷ w) ++ r)) (parts_below (c ∷ w) r)))
]

-- where `0` doesn't stand for all, six parts are wanted
need_is : (b : Bool) (c : ℕ) (w : List ℕ) (n : ℕ) → cond {A = ℕ} b 0 n ≤ n
need_is true c w n = omega arith
need_is false c w n = omega arith

six_none : (b : Bool) (n : ℕ) → n ≡ 0 → cond {A = ℕ} b 0 n ≡ 0
six_none true n e = refl
six_none false n e = e

spread_full : (zero_alone : Bool) (most : ℕ) (w : List ℕ) → is_spread zero_alone most w ≡ true → spread_need zero_alone w ≡ 0
spread_full zero_alone most [] e = refl
spread_full zero_alone most (c ∷ w) e = elim (spread_cases zero_alone most c w e) [
  | inl h ↦ rw (and_from zero_alone (is_zero (c ∷ w)) h.0 h.1) refl
  | inr h ↦ six_none (zero_alone && is_zero (c ∷ w)) (6 - length (parts (c ∷ w))) (omega (arith, h.1))
]

longer_zero : (c : ℕ) (w : List ℕ) (d : ℕ) → is_zero (c ∷ (w ++ d ∷ [])) ≡ false
longer_zero c [] d = refl
longer_zero c (e ∷ w) d = refl

spread_slow : (zero_alone : Bool) (w : List ℕ) (d : ℕ) → spread_need zero_alone w ≤ spread_need zero_alone (w ++ d ∷ []) + 1
spread_slow zero_alone [] d = omega arith
spread_slow zero_alone (c ∷ w) d =
    let fewer = pieces_grow 44 d (c ∷ w) in
    let first : spread_need zero_alone (c ∷ w) ≤ 6 - length (parts (c ∷ w)) = need_is (zero_alone && is_zero (c ∷ w)) c w (6 - length (parts (c ∷ w))) in
    let second : spread_need zero_alone ((c ∷ w) ++ d ∷ []) ≡ 6 - length (parts ((c ∷ w) ++ d ∷ [])) = rw (longer_zero c w d, and-false zero_alone) refl in
    omega (arith, fewer, first, second)

-- a comma more is a part more, an empty one
comma_more : (most : ℕ) (w : List ℕ) → are_numbers most w ≡ true → (are_numbers most (w ++ 44 ∷ []) ≡ true) × (length (parts (w ++ 44 ∷ [])) ≡ suc (length (parts w)))
comma_more most w e =
    let f = numbers_facts most w e in
    let more : parts (w ++ 44 ∷ []) ≡ parts w ++ [] ∷ [] = split_snoc 44 44 w in (
      numbers_made most (w ++ 44 ∷ []) (record {
        chars = list_all-append is_spread_char w (44 ∷ []) ∙ and_from _ _ f.chars refl;
        each = ap (list_all (is_number most)) more ∙ list_all-append (is_number most) (parts w) ([] ∷ []) ∙ and_from _ _ f.each (and_from _ _ (empty_number most) refl);
      }),
      omega (arith, ap length more, length-append (parts w) ([] ∷ [])),
    )

commas : (most n : ℕ) (w : List ℕ) → are_numbers most w ≡ true → length (parts w) + n ≡ 6 → (r : List ℕ) × (are_numbers most (w ++ r) ≡ true) × (length (parts (w ++ r)) ≡ 6) × (length r ≡ n) × (list_all (λ c. ltb c 128) r ≡ true)
commas most zero w e six = ([], rw append-nil e, rw append-nil (omega (arith, six)), refl, refl)
commas most (suc n) w e six =
    let m = comma_more most w e in
    let later = commas most n (w ++ 44 ∷ []) m.0 (omega (arith, six, m.1)) in
    let same : (w ++ 44 ∷ []) ++ later.0 ≡ w ++ 44 ∷ later.0 = append_assoc w (44 ∷ []) later.0 in
    (44 ∷ later.0, sym (ap (are_numbers most) same) ∙ later.1, sym (ap (λ (u : List ℕ). length (parts u)) same) ∙ later.2, ap suc later.3, and_from _ _ refl later.4)

abbrev Completes : Bool → ℕ → List ℕ → ℕ → Type 0
Completes zero_alone most w n = (r : List ℕ) × (is_spread zero_alone most (w ++ r) ≡ true) × (length r ≡ n) × (list_all (λ c. ltb c 128) r ≡ true)

six_more : (zero_alone : Bool) (most : ℕ) (c : ℕ) (w : List ℕ) → are_numbers most (c ∷ w) ≡ true → length (parts (c ∷ w)) ≤ 6 → Completes zero_alone most (c ∷ w) (6 - length (parts (c ∷ w)))
six_more zero_alone most c w e le =
    let m = commas most (6 - length (parts (c ∷ w))) (c ∷ w) e (omega (arith, le)) in
    (m.0, or_right (zero_alone && is_zero (c ∷ (w ++ m.0))) _ (and_from _ _ m.1 (eq-eqb _ _ m.2)), m.3, m.4)

zero_done : (zero_alone : Bool) (most : ℕ) (c : ℕ) (w : List ℕ) → (zero_alone && is_zero (c ∷ w)) ≡ true → Completes zero_alone most (c ∷ w) 0
zero_done zero_alone most c w e = ([], ap (is_spread zero_alone most) (append-nil (c ∷ w)) ∙ or_left _ _ e, refl, refl)

spread_completes : (zero_alone : Bool) (most : ℕ) (w : List ℕ) → prefix_ok (spread zero_alone most) w ≡ true → Completes zero_alone most w (spread_need zero_alone w)
unfolding prefix_ok
spread_completes zero_alone most [] e = ([], refl, refl, refl)
spread_completes zero_alone most (c ∷ w) e =
    let a = and_parts (are_numbers most (c ∷ w)) (leb (length (parts (c ∷ w))) 6) e in
    elim (zero_alone && is_zero (c ∷ w)) as (λ b. ((zero_alone && is_zero (c ∷ w)) ≡ b → Completes zero_alone most (c ∷ w) (cond b 0 (6 - length (parts (c ∷ w)))))) [
      | true ↦ λ h. zero_done zero_alone most c w h
      | false ↦ λ h. six_more zero_alone most c w a.0 (leb-true _ _ a.1)
    ] refl

inner_spread : (c : ℕ) → is_spread_char c ≡ true → c ≤ 57
inner_spread c e = elim (or_cases (leb 48 c && leb c 57) (eqb c 44) e) [
  | inl h ↦ (let a = and_parts (leb 48 c) (leb c 57) h in leb-true _ _ a.1)
  | inr h ↦ (let k : c ≡ 44 = eqb-true _ _ h in omega (arith, k))
]

spread_inner : (w : List ℕ) → list_all is_spread_char w ≡ true → list_all is_inner w ≡ true
spread_inner [] e = refl
spread_inner (c ∷ cs) e =
    let a = and_parts (is_spread_char c) (list_all is_spread_char cs) e in
    let le = inner_spread c a.0 in
    let x : eqb c 124 ≡ false = ne_eqb _ _ (λ z. omega (arith, z, le)) in
    let y : eqb c 93 ≡ false = ne_eqb _ _ (λ z. omega (arith, z, le)) in
    and_from _ _ (and_from _ _ (ap not x) (ap not y)) (spread_inner cs a.1)

zero_plain : (w : List ℕ) → w ≡ 48 ∷ [] → list_all is_inner w ≡ true
zero_plain w e = rw e refl

spread_plain : (zero_alone : Bool) (most : ℕ) (w : List ℕ) → is_spread zero_alone most w ≡ true → list_all is_inner w ≡ true
spread_plain zero_alone most [] e = refl
spread_plain zero_alone most (c ∷ w) e = elim (spread_cases zero_alone most c w e) [
  | inl h ↦ zero_plain (c ∷ w) (zero_is (c ∷ w) h.1)
  | inr h ↦ spread_inner (c ∷ w) (numbers_facts most (c ∷ w) h.0).chars
]

pub spread_laws : (zero_alone : Bool) (most : ℕ) → Laws (spread zero_alone most)
unfolding in_form need
spread_laws zero_alone most = record {
  closed = spread_closed zero_alone most;
  completes = spread_completes zero_alone most;
  slow = λ w c e. spread_slow zero_alone w c;
  full = spread_full zero_alone most;
  plain = spread_plain zero_alone most;
}
