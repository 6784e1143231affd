-- The laws of moves.
use Rattle.std.proofs.Common.{◌≡◌, ℕ, ◌≤◌, ◌&&◌, Bool, true, false, cond, eqb, leb, List, [], ◌∷◌, ◌++◌, length, filter, refl, ap, ◌∙◌, inl, inr, arith}
use Rattle.std.specs.List.{list_all, list_any, onto_first}
use Rattle.std.proofs.lemmas.Bool.{leb-true, le-leb, and_parts, or_cases, and_from, or_left, or_right}
use Rattle.std.proofs.lemmas.List.{length-append, append-nil}
use Rattle.ps_packed.specs.Forms.{is_field_char, moves, parts, is_id_letter, has_id, are_short, id_count, in_form}
use Rattle.ps_packed.specs.Scan.{prefix_ok, need}
use Rattle.ps_packed.proofs.Truths.{all_front}
use Rattle.ps_packed.proofs.Laws.{Laws, field_inner}

-- each part is the front of the part in its place
abbrev pub Below : List (List ℕ) → List (List ℕ) → Type 0
Below [] qs = Unit {0}
Below (p ∷ ps) [] = ⊥
Below (p ∷ ps) (q ∷ qs) = (r : List ℕ) × (q ≡ p ++ r) × Below ps qs

onto_below : (b : ℕ) (ps qs : List (List ℕ)) → Below ps qs → Below (onto_first b ps) (onto_first b qs)
onto_below b [] [] h = ([], refl, tt)
onto_below b [] (q ∷ qs) h = (q, refl, tt)
onto_below b (p ∷ ps) [] h = absurd h
onto_below b (p ∷ ps) (q ∷ qs) h = (h.0, ap (λ (u : List ℕ). b ∷ u) h.1, h.2)

nothing_below : (b : Bool) (x : ℕ) (ps : List (List ℕ)) → Below ([] ∷ []) (cond b ([] ∷ ps) (onto_first x ps))
nothing_below true x ps = ([], refl, tt)
nothing_below false x [] = (x ∷ [], refl, tt)
nothing_below false x (p ∷ ps) = (x ∷ p, refl, tt)

both_below : (c : Bool) (b : ℕ) (ps qs : List (List ℕ)) → Below ps qs → Below (cond c ([] ∷ ps) (onto_first b ps)) (cond c ([] ∷ qs) (onto_first b qs))
both_below true b ps qs h = ([], refl, h)
both_below false b ps qs h = onto_below b ps qs h

pub parts_below : (w r : List ℕ) → Below (parts w) (parts (w ++ r))
parts_below [] [] = ([], refl, tt)
parts_below [] (x ∷ r) = nothing_below (eqb x 44) x (parts r)
parts_below (b ∷ w) r = both_below (eqb b 44) b (parts w) (parts (w ++ r)) (parts_below w r)

short_below : (ps qs : List (List ℕ)) → Below ps qs → list_all (λ p. leb (length p) 32) qs ≡ true → list_all (λ p. leb (length p) 32) ps ≡ true
short_below [] qs h e = refl
short_below (p ∷ ps) [] h e = absurd h
short_below (p ∷ ps) (q ∷ qs) h e =
    let a = and_parts (leb (length q) 32) (list_all (λ p. leb (length p) 32) qs) e in
    let le : length q ≤ 32 = leb-true _ _ a.0 in
    and_from _ _ (le-leb _ _ (omega (arith, le, ap length h.1, length-append p h.0))) (short_below ps qs h.2 a.1)

any_stays : (test : ℕ → Bool) (p r : List ℕ) → list_any test p ≡ true → list_any test (p ++ r) ≡ true
any_stays test [] r e = absurd cc
any_stays test (b ∷ p) r e = elim (or_cases (test b) (list_any test p) e) [ inl h ↦ or_left _ _ h | inr h ↦ or_right (test b) _ (any_stays test p r h) ]

id_stays : (p r : List ℕ) → has_id p ≡ true → has_id (p ++ r) ≡ true
unfolding has_id
id_stays p r e = any_stays is_id_letter p r e

more_or_same : (a b : Bool) (p q : List ℕ) (ps qs : List (List ℕ)) → (a ≡ true → b ≡ true) → length ps ≤ length qs → length (cond a (p ∷ ps) ps) ≤ length (cond b (q ∷ qs) qs)
more_or_same true b p q ps qs f le = rw (f refl) (omega (arith, le))
more_or_same false true p q ps qs f le = omega (arith, le)
more_or_same false false p q ps qs f le = le

counted_below : (ps qs : List (List ℕ)) → Below ps qs → length (filter has_id ps) ≤ length (filter has_id qs)
counted_below [] qs h = omega arith
counted_below (p ∷ ps) [] h = absurd h
counted_below (p ∷ ps) (q ∷ qs) h = more_or_same (has_id p) (has_id q) p q (filter has_id ps) (filter has_id qs) (λ e. ap has_id h.1 ∙ id_stays p h.0 e) (counted_below ps qs h.2)

pub record IsMoves (w : List ℕ) : Type 0 where
  pub chars : list_all is_field_char w ≡ true
  pub are : are_short w ≡ true
  pub few : id_count w ≤ 4

pub moves_facts : (w : List ℕ) → in_form moves w ≡ true → IsMoves w
unfolding in_form
moves_facts w e =
    let a = and_parts (list_all is_field_char w && are_short w) (leb (id_count w) 4) e in
    let b = and_parts (list_all is_field_char w) (are_short w) a.0 in
    record { chars = b.0; are = b.1; few = leb-true _ _ a.1 }

pub moves_made : (w : List ℕ) → IsMoves w → in_form moves w ≡ true
unfolding in_form
moves_made w f = and_from _ _ (and_from _ _ f.chars f.are) (le-leb _ _ f.few)

moves_closed : (w r : List ℕ) → in_form moves (w ++ r) ≡ true → prefix_ok moves w ≡ true
unfolding prefix_ok are_short id_count
moves_closed w r e =
    let f = moves_facts (w ++ r) e in
    let fewer = counted_below (parts w) (parts (w ++ r)) (parts_below w r) in
    moves_made w (record { chars = (all_front is_field_char w r f.chars).0; are = short_below (parts w) (parts (w ++ r)) (parts_below w r) f.are; few = omega (arith, fewer, f.few) })

pub moves_laws : Laws moves
unfolding prefix_ok need
moves_laws = record {
  closed = moves_closed;
  completes = λ w e. ([], rw append-nil e, refl, refl);
  slow = λ w c e. omega arith;
  full = λ w e. refl;
  plain = λ w e. field_inner w (moves_facts w e).chars;
}
