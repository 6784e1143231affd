-- The canonical text of moves.
use Rattle.std.proofs.Common.{◌≡◌, ◌≢◌, ℕ, suc, ◌<◌, ◌≤◌, ◌==◌, ◌&&◌, Bool, true, false, not, cond, leb, List, [], ◌∷◌, length, map, filter, refl, sym, ap, ◌∙◌, inl, inr, ◌⊎◌, arith}
use Rattle.std.specs.List.{list_all, list_any, AllByRecursion, join_with_byte}
use Rattle.std.proofs.lemmas.Bool.{leb-true, le-leb, ne_eqb, lt-leb, lt-ltb, and_parts, or_cases, and_from}
use Rattle.std.proofs.lemmas.List.Folds.{list_all-append}
use Rattle.std.proofs.lemmas.List.Splits.{join_with_byte-slice_split}
use Rattle.std.proofs.Math.Bool.{and-false}
use Rattle.ps_base.specs.Ids.{lower, is_id_byte, id_of}
use Rattle.ps_base.proofs.IdLemmas.{length-id_of}
use Rattle.ps_packed.specs.Forms.{is_field_char, moves, parts, is_id_letter, has_id, are_short, id_count, ids_of, in_form}
use Rattle.ps_packed.specs.Packed.{bytes_of}
use Rattle.ps_packed.specs.Canon.{moves_text}
use Rattle.ps_packed.proofs.Laws.{is_low}
use Rattle.ps_packed.proofs.MoveLaws.{IsMoves, moves_facts, moves_made}
use Rattle.ps_packed.proofs.Unique.{Lacks, split_join}
use Rattle.ps_packed.proofs.Bytes.{low_bytes, length_bytes}
use Rattle.ps_packed.proofs.Joins.{total, joined_shorter}

pub record IsIdPart (p : List ℕ) : Type 0 where
  pub bytes : list_all is_id_byte p ≡ true
  pub some : has_id p ≡ true
  pub short : length p ≤ 32

-- a byte of an id
record IdByte (b : ℕ) : Type 0 where
  pub stays : lower b ≡ b
  pub field : is_field_char b ≡ true
  pub no_comma : not (b == 44) ≡ true

range_of : (b : ℕ) → is_id_byte b ≡ true → ((97 ≤ b) × (b ≤ 122)) ⊎ ((48 ≤ b) × (b ≤ 57))
range_of b e = elim (or_cases (leb 97 b && leb b 122) (leb 48 b && leb b 57) e) [
  | inl h ↦ (let a = and_parts (leb 97 b) (leb b 122) h in inl (leb-true _ _ a.0, leb-true _ _ a.1))
  | inr h ↦ (let a = and_parts (leb 48 b) (leb b 57) h in inr (leb-true _ _ a.0, leb-true _ _ a.1))
]

made_byte : (b : ℕ) → 48 ≤ b → b ≤ 122 → b ≢ 93 → (leb 65 b && leb b 90) ≡ false → IdByte b
made_byte b le most ne small = record {
  stays = rw small refl;
  field = and_from _ _ (and_from _ _ (le-leb _ _ (omega (arith, le))) (ap not (ne_eqb b 124 (λ z. omega (arith, z, most))))) (ap not (ne_eqb b 93 ne));
  no_comma = ap not (ne_eqb b 44 (λ z. omega (arith, z, le)));
}

id_byte : (b : ℕ) → is_id_byte b ≡ true → IdByte b
id_byte b e = elim (range_of b e) [
  | inl h ↦ made_byte b (omega (arith, h.0)) h.1 (λ z. omega (arith, z, h.0)) (rw (lt-leb b 90 (omega (arith, h.0))) (and-false (leb 65 b)))
  | inr h ↦ made_byte b h.0 (omega (arith, h.1)) (λ z. omega (arith, z, h.1)) (rw (lt-leb 65 b (omega (arith, h.1))) refl)
]

ids_field : (p : List ℕ) → list_all is_id_byte p ≡ true → list_all is_field_char p ≡ true
ids_field [] e = refl
ids_field (b ∷ p) e = let a = and_parts (is_id_byte b) (list_all is_id_byte p) e in and_from _ _ (id_byte b a.0).field (ids_field p a.1)

ids_lack : (p : List ℕ) → list_all is_id_byte p ≡ true → Lacks 44 p
ids_lack [] e = refl
ids_lack (b ∷ p) e = let a = and_parts (is_id_byte b) (list_all is_id_byte p) e in and_from _ _ (id_byte b a.0).no_comma (ids_lack p a.1)

-- an id is its own id
ids_stay : (p : List ℕ) → list_all is_id_byte p ≡ true → id_of p ≡ p
ids_stay [] e = refl
ids_stay (b ∷ p) e =
    let a = and_parts (is_id_byte b) (list_all is_id_byte p) e in
    rw ((id_byte b a.0).stays, a.0) (ap (λ (u : List ℕ). b ∷ u) (ids_stay p a.1))

-- the id of a part
kept_bytes : (b : Bool) (x : ℕ) (xs : List ℕ) → (b ≡ true → is_id_byte x ≡ true) → list_all is_id_byte xs ≡ true → list_all is_id_byte (cond b (x ∷ xs) xs) ≡ true
kept_bytes true x xs f h = and_from _ _ (f refl) h
kept_bytes false x xs f h = h

id_bytes : (p : List ℕ) → list_all is_id_byte (id_of p) ≡ true
id_bytes [] = refl
id_bytes (b ∷ p) = kept_bytes (is_id_byte (lower b)) (lower b) (id_of p) (λ e. e) (id_bytes p)

-- what has an id letter keeps one
first_kept : (b : Bool) (x : ℕ) (p xs : List ℕ) → (b ≡ true → is_id_letter x ≡ true) → (b ≡ false → list_any is_id_letter xs ≡ true) → list_any is_id_letter (cond b (x ∷ xs) xs) ≡ true
first_kept true x p xs f g = rw (f refl) refl
first_kept false x p xs f g = g refl

letter_stays : (b : ℕ) → is_id_byte b ≡ true → is_id_letter b ≡ true
letter_stays b e = rw (id_byte b e).stays e

some_id : (p : List ℕ) → has_id p ≡ true → has_id (id_of p) ≡ true
unfolding has_id
some_id [] e = absurd cc
some_id (b ∷ p) e = first_kept (is_id_byte (lower b)) (lower b) p (id_of p) (λ h. letter_stays (lower b) h)
    (λ h. (elim (or_cases (is_id_letter b) (list_any is_id_letter p) e) [
      | inl k ↦ absurd (let wrong : false ≡ true = sym h ∙ k in cc)
      | inr k ↦ some_id p k
    ]))

ids_made : (ps : List (List ℕ)) → list_all (λ p. leb (length p) 32) ps ≡ true → AllByRecursion IsIdPart (map id_of (filter has_id ps))
ids_made [] e = tt
ids_made (p ∷ ps) e =
    let a = and_parts (leb (length p) 32) (list_all (λ p. leb (length p) 32) ps) e in
    elim (has_id p) as (λ b. (has_id p ≡ b → AllByRecursion IsIdPart (map id_of (cond b (p ∷ filter has_id ps) (filter has_id ps))))) [
      | true ↦ λ h. (record { bytes = id_bytes p; some = some_id p h; short = (let le : length p ≤ 32 = leb-true _ _ a.0 in omega (arith, length-id_of p, le)) }, ids_made ps a.1)
      | false ↦ λ h. ids_made ps a.1
    ] refl

-- ids joined by commas
all_lack : (ids : List (List ℕ)) → AllByRecursion IsIdPart ids → AllByRecursion (Lacks 44) ids
all_lack [] h = tt
all_lack (i ∷ ids) h = (ids_lack i h.0.bytes, all_lack ids h.1)

kept_all : (ids : List (List ℕ)) → AllByRecursion IsIdPart ids → filter has_id ids ≡ ids
kept_all [] h = refl
kept_all (i ∷ ids) h = rw h.0.some (ap (λ (u : List (List ℕ)). i ∷ u) (kept_all ids h.1))

same_all : (ids : List (List ℕ)) → AllByRecursion IsIdPart ids → map id_of ids ≡ ids
same_all [] h = refl
same_all (i ∷ ids) h = rw (ids_stay i h.0.bytes) (ap (λ (u : List (List ℕ)). i ∷ u) (same_all ids h.1))

no_ids : filter has_id ([] ∷ []) ≡ []
unfolding has_id
no_ids = refl

kept_joined : (ids : List (List ℕ)) → AllByRecursion IsIdPart ids → filter has_id (parts (join_with_byte 44 ids)) ≡ ids
kept_joined [] h = no_ids
kept_joined (i ∷ ids) h = ap (filter has_id) (split_join 44 i ids (all_lack (i ∷ ids) h)) ∙ kept_all (i ∷ ids) h

ids_back : (ids : List (List ℕ)) → AllByRecursion IsIdPart ids → ids_of (join_with_byte 44 ids) ≡ ids
ids_back ids h = ap (map id_of) (kept_joined ids h) ∙ same_all ids h

short_all : (ids : List (List ℕ)) → AllByRecursion IsIdPart ids → list_all (λ p. leb (length p) 32) ids ≡ true
short_all [] h = refl
short_all (i ∷ ids) h = and_from _ _ (le-leb _ _ h.0.short) (short_all ids h.1)

parts_short : (ids : List (List ℕ)) → AllByRecursion IsIdPart ids → are_short (join_with_byte 44 ids) ≡ true
unfolding are_short
parts_short [] h = refl
parts_short (i ∷ ids) h = ap (list_all (λ p. leb (length p) 32)) (split_join 44 i ids (all_lack (i ∷ ids) h)) ∙ short_all (i ∷ ids) h

joined_field : (ids : List (List ℕ)) → AllByRecursion IsIdPart ids → list_all is_field_char (join_with_byte 44 ids) ≡ true
joined_field [] h = refl
joined_field (i ∷ []) h = ids_field i h.0.bytes
joined_field (i ∷ j ∷ ids) h = list_all-append is_field_char i (44 ∷ join_with_byte 44 (j ∷ ids)) ∙ and_from _ _ (ids_field i h.0.bytes) (joined_field (j ∷ ids) h.1)

joined_moves : (ids : List (List ℕ)) → AllByRecursion IsIdPart ids → length ids ≤ 4 → in_form moves (join_with_byte 44 ids) ≡ true
unfolding id_count
joined_moves ids h few = moves_made (join_with_byte 44 ids) (record { chars = joined_field ids h; are = parts_short ids h; few = omega (arith, ap length (kept_joined ids h), few) })

ids_low : (p : List ℕ) → list_all is_id_byte p ≡ true → list_all is_low p ≡ true
ids_low [] e = refl
ids_low (b ∷ p) e =
    let a = and_parts (is_id_byte b) (list_all is_id_byte p) e in
    let low : b < 128 = elim (range_of b a.0) [ inl h ↦ omega (arith, h.1) | inr h ↦ omega (arith, h.1) ] in
    and_from _ _ (lt-ltb b 128 low) (ids_low p a.1)

joined_low : (ids : List (List ℕ)) → AllByRecursion IsIdPart ids → list_all is_low (join_with_byte 44 ids) ≡ true
joined_low [] h = refl
joined_low (i ∷ []) h = ids_low i h.0.bytes
joined_low (i ∷ j ∷ ids) h = list_all-append is_low i (44 ∷ join_with_byte 44 (j ∷ ids)) ∙ and_from _ _ (ids_low i h.0.bytes) (and_from _ _ refl (joined_low (j ∷ ids) h.1))

-- an id has no more bytes than its part
id_bytes_few : (p : List ℕ) → bytes_of (id_of p) ≤ bytes_of p
id_bytes_few p = omega (arith, length-id_of p, low_bytes (id_of p) (ids_low (id_of p) (id_bytes p)), length_bytes p)

kept_total : (b : Bool) (p : List ℕ) (ps qs : List (List ℕ)) → total (map id_of qs) ≤ total ps → total (map id_of (cond b (p ∷ qs) qs)) ≤ total (p ∷ ps)
kept_total true p ps qs le = omega (arith, le, id_bytes_few p)
kept_total false p ps qs le = omega (arith, le)

ids_total : (ps : List (List ℕ)) → total (map id_of (filter has_id ps)) ≤ total ps
ids_total [] = omega arith
ids_total (p ∷ ps) = kept_total (has_id p) p ps (filter has_id ps) (ids_total ps)

length_mapped : (ps : List (List ℕ)) → length (map id_of ps) ≡ length ps
length_mapped [] = refl
length_mapped (p ∷ ps) = ap suc (length_mapped ps)

ids_found : (m : List ℕ) → IsMoves m → AllByRecursion IsIdPart (ids_of m)
unfolding are_short
ids_found m f = ids_made (parts m) f.are

pub ids_few : (m : List ℕ) → IsMoves m → length (ids_of m) ≤ 4
unfolding id_count
ids_few m f = omega (arith, length_mapped (filter has_id (parts m)), f.few)

-- what the canonical text of moves keeps
pub record IsMovesText (m : List ℕ) : Type 0 where
  pub fits : in_form moves (moves_text (ids_of m)) ≡ true
  pub back : ids_of (moves_text (ids_of m)) ≡ ids_of m
  pub short : bytes_of (moves_text (ids_of m)) ≤ bytes_of m
  pub low : list_all is_low (moves_text (ids_of m)) ≡ true

pub moves_canon : (m : List ℕ) → in_form moves m ≡ true → IsMovesText m
moves_canon m e =
    let f = moves_facts m e in
    let ids = ids_found m f in
    record {
      fits = joined_moves (ids_of m) ids (ids_few m f);
      back = ids_back (ids_of m) ids;
      short = omega (arith, joined_shorter 44 (ids_of m) (parts m) (omega arith) (ids_total (parts m)), ap bytes_of (join_with_byte-slice_split 44 m));
      low = joined_low (ids_of m) ids;
    }
