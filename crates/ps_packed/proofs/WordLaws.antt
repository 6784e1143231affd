-- The laws of plain texts and of letters.
use Rattle.std.proofs.Common.{◌≡◌, ℕ, ◌≤◌, ◌==◌, true, eqb, leb, List, [], ◌∷◌, ◌++◌, length, refl, ap, ◌∙◌, inl, inr, eqb-true, arith}
use Rattle.std.specs.List.{list_all, list_any}
use Rattle.std.proofs.lemmas.Bool.{leb-true, le-leb, and_parts, or_cases, and_from}
use Rattle.std.proofs.lemmas.List.{length-append, append-nil}
use Rattle.ps_packed.specs.Forms.{is_field_char, words, letter, is_letter, in_form}
use Rattle.ps_packed.specs.Scan.{prefix_ok, need}
use Rattle.ps_packed.proofs.Truths.{all_front}
use Rattle.ps_packed.proofs.Laws.{Laws, is_inner, field_inner}

pub record IsWords (most : ℕ) (w : List ℕ) : Type 0 where
  pub chars : list_all is_field_char w ≡ true
  pub short : length w ≤ most

pub words_facts : (most : ℕ) (w : List ℕ) → in_form (words most) w ≡ true → IsWords most w
unfolding in_form
words_facts most w e = let a = and_parts (list_all is_field_char w) (leb (length w) most) e in record { chars = a.0; short = leb-true _ _ a.1 }

pub words_made : (most : ℕ) (w : List ℕ) → IsWords most w → in_form (words most) w ≡ true
unfolding in_form
words_made most w f = and_from _ _ f.chars (le-leb _ _ f.short)

words_closed : (most : ℕ) (w r : List ℕ) → in_form (words most) (w ++ r) ≡ true → prefix_ok (words most) w ≡ true
unfolding prefix_ok
words_closed most w r e =
    let f = words_facts most (w ++ r) e in
    words_made most w (record { chars = (all_front is_field_char w r f.chars).0; short = omega (arith, f.short, length-append w r) })

pub words_laws : (most : ℕ) → Laws (words most)
unfolding prefix_ok need
words_laws most = record {
  closed = words_closed most;
  completes = λ w e. ([], rw append-nil e, refl, refl);
  slow = λ w c e. omega arith;
  full = λ w e. refl;
  plain = λ w e. field_inner w (words_facts most w e).chars;
}

-- ---- letters

letter_closed : (letters : List ℕ) (w r : List ℕ) → is_letter letters (w ++ r) ≡ true → is_letter letters w ≡ true
letter_closed letters [] r e = refl
letter_closed letters (c ∷ []) [] e = e
letter_closed letters (c ∷ []) (d ∷ r) e = absurd cc
letter_closed letters (c ∷ d ∷ w) r e = absurd cc

among_inner : (letters : List ℕ) (c : ℕ) → list_all is_inner letters ≡ true → list_any (λ l. c == l) letters ≡ true → is_inner c ≡ true
among_inner [] c h e = absurd cc
among_inner (l ∷ letters) c h e =
    let a = and_parts (is_inner l) (list_all is_inner letters) h in
    elim (or_cases (eqb c l) (list_any (λ l. c == l) letters) e) [
      | inl k ↦ ap is_inner (eqb-true c l k) ∙ a.0
      | inr k ↦ among_inner letters c a.1 k
    ]

letter_plain : (letters : List ℕ) (w : List ℕ) → list_all is_inner letters ≡ true → is_letter letters w ≡ true → list_all is_inner w ≡ true
letter_plain letters [] h e = refl
letter_plain letters (c ∷ []) h e = and_from _ _ (among_inner letters c h e) refl
letter_plain letters (c ∷ d ∷ w) h e = absurd cc

pub letter_laws : (letters : List ℕ) → list_all is_inner letters ≡ true → Laws (letter letters)
unfolding prefix_ok need in_form
letter_laws letters inner = record {
  closed = letter_closed letters;
  completes = λ w e. ([], rw append-nil e, refl, refl);
  slow = λ w c e. omega arith;
  full = λ w e. refl;
  plain = λ w e. letter_plain letters w inner e;
}
