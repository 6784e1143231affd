-- What is kept beside the text of a field: where its last part begins, and how many parts have an id.
use Rattle.std.proofs.Common.{◌≡◌, ℕ, zero, suc, ◌+◌, ◌≤◌, ◌&&◌, ◌||◌, Bool, true, false, not, cond, eqb, leb, List, [], ◌∷◌, ◌++◌, length, drop, filter, refl, sym, ap, ◌∙◌, arith}
use Rattle.std.specs.List.{list_all, list_any, onto_first}
use Rattle.std.proofs.lemmas.List.{length-append}
use Rattle.std.proofs.lemmas.List.Elements.{filter-append}
use Rattle.std.proofs.lemmas.List.Folds.{list_all-append}
use Rattle.std.proofs.lemmas.Bool.{and_parts}
use Rattle.std.proofs.Math.Bool.{or-false}
use Rattle.ps_packed.specs.Forms.{is_field_char, moves, parts, is_id_letter, has_id, are_short, id_count, in_form}
use Rattle.ps_packed.specs.Packed.{end_of}
use Rattle.ps_packed.specs.Scan.{prefix_ok, last_part, CountsOf, gives_id}
use Rattle.ps_packed.proofs.MoveLaws.{moves_facts}
use Rattle.ps_packed.proofs.Splits.{grown, some_piece, split_snoc, grown_end}
use Rattle.ps_packed.proofs.Positions.{end_snoc}

-- the parts, the last by itself
record Parts (w : List ℕ) : Type 0 where
  done : List (List ℕ)
  are : parts w ≡ done ++ last_part w ∷ []

last_apart : (p : List ℕ) (ps : List (List ℕ)) → (done : List (List ℕ)) × (p ∷ ps ≡ done ++ end_of p ps ∷ [])
last_apart p [] = ([], refl)
last_apart p (q ∷ ps) = let l = last_apart q ps in (p ∷ l.0, ap (λ (u : List (List ℕ)). p ∷ u) l.1)

parts_apart : (w : List ℕ) → Parts w
parts_apart w =
    let s = some_piece 44 w in
    let l = last_apart s.0 s.1 in
    record { done = l.0; are = s.2 ∙ l.1 ∙ ap (λ (u : List ℕ). l.0 ++ u ∷ []) (sym (ap (end_of []) s.2)) }

-- the parts after one character more
after : (w : List ℕ) (c : ℕ) (p : Parts w) → parts (w ++ c ∷ []) ≡ cond (eqb c 44) ((p.done ++ last_part w ∷ []) ++ [] ∷ []) (p.done ++ (last_part w ++ c ∷ []) ∷ [])
after w c p = split_snoc 44 c w ∙ ap (grown (eqb c 44) c) p.are ∙ grown_end (eqb c 44) c p.done (last_part w)

abbrev ids_among : List (List ℕ) → ℕ
ids_among ps = length (filter has_id ps)

ids_snoc : (ps : List (List ℕ)) (q : List ℕ) → ids_among (ps ++ q ∷ []) ≡ ids_among ps + cond (has_id q) 1 0
ids_snoc ps q = ap length (filter-append has_id ps (q ∷ [])) ∙ length-append (filter has_id ps) (filter has_id (q ∷ [])) ∙ ap (λ n. ids_among ps + n) (one (has_id q))
  where
    one : (b : Bool) → length (cond b (q ∷ []) []) ≡ cond b 1 0
    one true = refl
    one false = refl

no_id : has_id [] ≡ false
unfolding has_id
no_id = refl

either_any : (x y z t : Bool) → z ≡ cond y true t → (x || z) ≡ cond (x || y) true t
either_any true y z t e = refl
either_any false y z t e = e

any_snoc : (test : ℕ → Bool) (w : List ℕ) (c : ℕ) → list_any test (w ++ c ∷ []) ≡ cond (list_any test w) true (test c)
any_snoc test [] c = or-false (test c)
any_snoc test (b ∷ w) c = either_any (test b) (list_any test w) (list_any test (w ++ c ∷ [])) (test c) (any_snoc test w c)

id_snoc : (w : List ℕ) (c : ℕ) → has_id (w ++ c ∷ []) ≡ cond (has_id w) true (is_id_letter c)
unfolding has_id
id_snoc w c = any_snoc is_id_letter w c

more_ids : (x y : Bool) (n : ℕ) → n + cond (cond x true y) 1 0 ≡ (n + cond x 1 0) + cond (y && not x) 1 0
more_ids true true n = omega arith
more_ids true false n = omega arith
more_ids false true n = omega arith
more_ids false false n = omega arith

count_comma : (w : List ℕ) (c : ℕ) → eqb c 44 ≡ true → id_count (w ++ c ∷ []) ≡ id_count w
unfolding id_count
count_comma w c e =
    let p = parts_apart w in
    let same : parts (w ++ c ∷ []) ≡ parts w ++ [] ∷ [] = after w c p ∙ ap (λ (b : Bool). cond b ((p.done ++ last_part w ∷ []) ++ [] ∷ []) (p.done ++ (last_part w ++ c ∷ []) ∷ [])) e ∙ ap (λ (u : List (List ℕ)). u ++ [] ∷ []) (sym p.are) in
    ap ids_among same ∙ ids_snoc (parts w) [] ∙ ap (λ (b : Bool). ids_among (parts w) + cond b 1 0) no_id ∙ omega arith

count_other : (w : List ℕ) (c : ℕ) → eqb c 44 ≡ false → id_count (w ++ c ∷ []) ≡ id_count w + cond (is_id_letter c && not (has_id (last_part w))) 1 0
unfolding id_count
count_other w c e =
    let p = parts_apart w in
    let same : parts (w ++ c ∷ []) ≡ p.done ++ (last_part w ++ c ∷ []) ∷ [] = after w c p ∙ ap (λ (b : Bool). cond b ((p.done ++ last_part w ∷ []) ++ [] ∷ []) (p.done ++ (last_part w ++ c ∷ []) ∷ [])) e in
    let before : ids_among (parts w) ≡ ids_among p.done + cond (has_id (last_part w)) 1 0 = ap ids_among p.are ∙ ids_snoc p.done (last_part w) in
    ap ids_among same ∙ ids_snoc p.done (last_part w ++ c ∷ []) ∙ ap (λ (b : Bool). ids_among p.done + cond b 1 0) (id_snoc (last_part w) c) ∙ more_ids (has_id (last_part w)) (is_id_letter c) (ids_among p.done) ∙ ap (λ n. n + cond (is_id_letter c && not (has_id (last_part w))) 1 0) (sym before)

drop_snoc : (n : ℕ) (w : List ℕ) (c : ℕ) → n ≤ length w → drop n (w ++ c ∷ []) ≡ drop n w ++ c ∷ []
drop_snoc zero w c le = refl
drop_snoc (suc n) [] c le = absurd (omega (arith, le))
drop_snoc (suc n) (b ∷ w) c le = drop_snoc n w c (omega (arith, le))

drop_past : (n : ℕ) (w : List ℕ) → length w ≡ n → drop n w ≡ []
drop_past zero [] e = refl
drop_past zero (b ∷ w) e = absurd (omega (arith, e))
drop_past (suc n) [] e = refl
drop_past (suc n) (b ∷ w) e = drop_past n w (omega (arith, e))

-- the last part after one character more
last_comma : (w : List ℕ) (c : ℕ) → eqb c 44 ≡ true → last_part (w ++ c ∷ []) ≡ []
last_comma w c e = let p = parts_apart w in ap (end_of []) (after w c p ∙ ap (λ (b : Bool). cond b ((p.done ++ last_part w ∷ []) ++ [] ∷ []) (p.done ++ (last_part w ++ c ∷ []) ∷ [])) e) ∙ end_snoc [] (p.done ++ last_part w ∷ []) []

last_other : (w : List ℕ) (c : ℕ) → eqb c 44 ≡ false → last_part (w ++ c ∷ []) ≡ last_part w ++ c ∷ []
last_other w c e = let p = parts_apart w in ap (end_of []) (after w c p ∙ ap (λ (b : Bool). cond b ((p.done ++ last_part w ∷ []) ++ [] ∷ []) (p.done ++ (last_part w ++ c ∷ []) ∷ [])) e) ∙ end_snoc [] p.done (last_part w ++ c ∷ [])

grows : (b : Bool) (w : List ℕ) (c part ids : ℕ) → eqb c 44 ≡ b → CountsOf w part ids → CountsOf (w ++ c ∷ []) (cond b (length (w ++ c ∷ [])) part) (ids + cond (not b && is_id_letter c && not (has_id (drop part w))) 1 0)
grows true w c part ids e h = record {
  within = omega arith;
  last_is = last_comma w c e ∙ sym (drop_past (length (w ++ c ∷ [])) (w ++ c ∷ []) refl);
  ids_are = omega (arith, h.ids_are, count_comma w c e);
}
grows false w c part ids e h = record {
  within = omega (arith, h.within, length-append w (c ∷ []));
  last_is = last_other w c e ∙ ap (λ (u : List ℕ). u ++ c ∷ []) h.last_is ∙ sym (drop_snoc part w c h.within);
  ids_are = ap (λ n. n + cond (is_id_letter c && not (has_id (drop part w))) 1 0) h.ids_are ∙ ap (λ (u : List ℕ). id_count w + cond (is_id_letter c && not (has_id u)) 1 0) (sym h.last_is) ∙ sym (count_other w c e);
}

pub counts_grow : (w : List ℕ) (c part ids : ℕ) → CountsOf w part ids → CountsOf (w ++ c ∷ []) (cond (eqb c 44) (length (w ++ c ∷ [])) part) (ids + cond (gives_id (drop part w) c) 1 0)
counts_grow w c part ids h = grows (eqb c 44) w c part ids refl h

pub counts_none : CountsOf [] 0 0
unfolding id_count has_id
counts_none = record { within = omega arith; last_is = refl; ids_are = refl }

-- there are no more ids than characters
kept_few : (ps : List (List ℕ)) → length (filter has_id ps) ≤ length ps
kept_few [] = omega arith
kept_few (p ∷ ps) = one (has_id p) (filter has_id ps) (kept_few ps)
  where
    one : (b : Bool) (qs : List (List ℕ)) → length qs ≤ length ps → length (cond b (p ∷ qs) qs) ≤ suc (length ps)
    one true qs le = omega (arith, le)
    one false qs le = omega (arith, le)

-- ---- moves with one character more

short_snoc : (ps : List (List ℕ)) (q : List ℕ) → list_all (λ p. leb (length p) 32) ps ≡ true → list_all (λ p. leb (length p) 32) (ps ++ q ∷ []) ≡ leb (length q) 32
short_snoc ps q e = list_all-append (λ p. leb (length p) 32) ps (q ∷ []) ∙ rw e (last_one (leb (length q) 32))
  where
    last_one : (b : Bool) → (b && true) ≡ b
    last_one true = refl
    last_one false = refl

short_front : (ps : List (List ℕ)) (q : List ℕ) → list_all (λ p. leb (length p) 32) (ps ++ q ∷ []) ≡ true → list_all (λ p. leb (length p) 32) ps ≡ true
short_front ps q e = (and_parts (list_all (λ p. leb (length p) 32) ps) (list_all (λ p. leb (length p) 32) (q ∷ [])) (sym (list_all-append (λ p. leb (length p) 32) ps (q ∷ [])) ∙ e)).0

short_next : (b : Bool) (w : List ℕ) (c : ℕ) → eqb c 44 ≡ b → are_short w ≡ true → are_short (w ++ c ∷ []) ≡ leb (length (last_part (w ++ c ∷ []))) 32
unfolding are_short
short_next true w c e h =
    let p = parts_apart w in
    let same : parts (w ++ c ∷ []) ≡ parts w ++ [] ∷ [] = after w c p ∙ ap (λ (b : Bool). cond b ((p.done ++ last_part w ∷ []) ++ [] ∷ []) (p.done ++ (last_part w ++ c ∷ []) ∷ [])) e ∙ ap (λ (u : List (List ℕ)). u ++ [] ∷ []) (sym p.are) in
    ap (list_all (λ p. leb (length p) 32)) same ∙ short_snoc (parts w) [] h ∙ ap (λ (u : List ℕ). leb (length u) 32) (sym (last_comma w c e))
short_next false w c e h =
    let p = parts_apart w in
    let same : parts (w ++ c ∷ []) ≡ p.done ++ (last_part w ++ c ∷ []) ∷ [] = after w c p ∙ ap (λ (b : Bool). cond b ((p.done ++ last_part w ∷ []) ++ [] ∷ []) (p.done ++ (last_part w ++ c ∷ []) ∷ [])) e in
    let fronts : list_all (λ p. leb (length p) 32) p.done ≡ true = short_front p.done (last_part w) (sym (ap (list_all (λ p. leb (length p) 32)) p.are) ∙ h) in
    ap (list_all (λ p. leb (length p) 32)) same ∙ short_snoc p.done (last_part w ++ c ∷ []) fronts ∙ ap (λ (u : List ℕ). leb (length u) 32) (sym (last_other w c e))

chars_next : (w : List ℕ) (c : ℕ) → list_all is_field_char w ≡ true → list_all is_field_char (w ++ c ∷ []) ≡ is_field_char c
chars_next w c e = list_all-append is_field_char w (c ∷ []) ∙ rw e (last_one (is_field_char c))
  where
    last_one : (b : Bool) → (b && true) ≡ b
    last_one true = refl
    last_one false = refl

pub moves_next : (w : List ℕ) (c part ids : ℕ) → prefix_ok moves w ≡ true → CountsOf (w ++ c ∷ []) part ids → prefix_ok moves (w ++ c ∷ []) ≡ (is_field_char c && leb (length (drop part (w ++ c ∷ []))) 32 && leb ids 4)
unfolding prefix_ok in_form
moves_next w c part ids e h =
    let f = moves_facts w e in
    rw (chars_next w c f.chars, short_next (eqb c 44) w c refl f.are, h.last_is, h.ids_are) refl

kept_parts : (b : Bool) (x : ℕ) (p : List ℕ) (ps : List (List ℕ)) (n : ℕ) → length (p ∷ ps) ≤ suc n → length (cond b ([] ∷ p ∷ ps) (onto_first x (p ∷ ps))) ≤ suc (suc n)
kept_parts true x p ps n le = omega (arith, le)
kept_parts false x p ps n le = omega (arith, le)

parts_few : (w : List ℕ) → length (parts w) ≤ suc (length w)
parts_few [] = omega arith
parts_few (b ∷ w) =
    let s = some_piece 44 w in
    let few : length (s.0 ∷ s.1) ≤ suc (length w) = omega (arith, parts_few w, ap length s.2) in
    rw s.2 (kept_parts (eqb b 44) b s.0 s.1 (length w) few)

pub ids_few : (w : List ℕ) (part ids : ℕ) → CountsOf w part ids → ids ≤ suc (length w)
unfolding id_count
ids_few w part ids h = omega (arith, h.ids_are, kept_few (parts w), parts_few w)

pub counts_after : (w : List ℕ) (x part ids : ℕ) (t new : List ℕ) (len part' ids' : ℕ) → CountsOf w part ids → t ≡ drop part w → new ≡ w ++ x ∷ [] → len ≡ length new → part' ≡ cond (eqb x 44) len part → ids' ≡ ids + cond (gives_id t x) 1 0 → CountsOf new part' ids'
counts_after w x part ids t new len part' ids' h t_is new_is len_is part_is ids_is =
    let g = counts_grow w x part ids h in
    let p : part' ≡ cond (eqb x 44) (length (w ++ x ∷ [])) part = part_is ∙ ap (λ n. cond (eqb x 44) n part) (len_is ∙ ap length new_is) in
    let i : ids' ≡ ids + cond (gives_id (drop part w) x) 1 0 = ids_is ∙ ap (λ (u : List ℕ). ids + cond (gives_id u x) 1 0) t_is in
    rw (new_is, p, i) g
