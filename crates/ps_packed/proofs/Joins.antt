-- Texts with a character between each two.
use Rattle.std.proofs.Common.{◌≡◌, ℕ, suc, ◌+◌, ◌<◌, ◌≤◌, true, List, [], ◌∷◌, ◌++◌, length, get_or, map, take, refl, sym, ap, ◌∙◌, arith, append_assoc}
use Rattle.std.specs.Char.{encode_utf8}
use Rattle.std.specs.Str.{encode_utf8_all, all_scalars}
use Rattle.std.specs.List.{list_all, join_with_byte}
use Rattle.std.proofs.lemmas.List.{take_more}
use Rattle.std.proofs.lemmas.Bool.{lt-ltb, and_parts, and_from}
use Rattle.std.proofs.lemmas.Str.{encodes-append, encode_ascii}
use Rattle.ps_packed.specs.Packed.{bytes_of}
use Rattle.ps_packed.proofs.Bytes.{bytes_append, low_bytes, low_scalars, scalars_append, scalars_front, scalars_back}

join_more : (c : ℕ) (p : List ℕ) (ps : List (List ℕ)) (q : List ℕ) → join_with_byte c (p ∷ (ps ++ q ∷ [])) ≡ join_with_byte c (p ∷ ps) ++ c ∷ q
join_more c p [] q = refl
join_more c p (r ∷ ps) q = ap (λ (u : List ℕ). p ++ c ∷ u) (join_more c r ps q) ∙ sym (append_assoc p (c ∷ join_with_byte c (r ∷ ps)) (c ∷ q))

-- a text more
pub join_next : (c : ℕ) (p : List ℕ) (ps : List (List ℕ)) (i : ℕ) (q : List ℕ) → i < length ps → q ≡ get_or ps i q → join_with_byte c (p ∷ take (i + 1) ps) ≡ join_with_byte c (p ∷ take i ps) ++ c ∷ q
join_next c p ps i q lt is = ap (λ (u : List (List ℕ)). join_with_byte c (p ∷ u)) (take_more ps i q lt) ∙ join_more c p (take i ps) (get_or ps i q) ∙ ap (λ (u : List ℕ). join_with_byte c (p ∷ take i ps) ++ c ∷ u) (sym is)

pub joins : (c : ℕ) (p : List ℕ) (ps : List (List ℕ)) (i : ℕ) (q old mid new : List ℕ) → c < 128 → i < length ps → q ≡ get_or ps i q → old ≡ join_with_byte c (p ∷ take i ps) → mid ≡ old ++ encode_utf8 c → new ≡ mid ++ q → new ≡ join_with_byte c (p ∷ take (i + 1) ps)
joins c p ps i q old mid new low lt is before middle more =
    more ∙ ap (λ (u : List ℕ). u ++ q) (middle ∙ ap (λ (u : List ℕ). old ++ u) (encode_ascii c low)) ∙ append_assoc old (c ∷ []) q ∙ ap (λ (u : List ℕ). u ++ c ∷ q) before ∙ sym (join_next c p ps i q lt is)

-- the bytes of texts, each with one more
abbrev pub total : List (List ℕ) → ℕ
total [] = 0
total (p ∷ ps) = suc (bytes_of p) + total ps

one_byte : (c : ℕ) (u : List ℕ) → c < 128 → bytes_of (c ∷ u) ≡ suc (bytes_of u)
one_byte c u low =
    let one : bytes_of (c ∷ []) ≡ 1 = low_bytes (c ∷ []) (and_from _ _ (lt-ltb c 128 low) refl) in
    omega (arith, bytes_append (c ∷ []) u, one)

pub join_bytes : (c : ℕ) (p : List ℕ) (ps : List (List ℕ)) → c < 128 → suc (bytes_of (join_with_byte c (p ∷ ps))) ≡ total (p ∷ ps)
join_bytes c p [] low = omega arith
join_bytes c p (q ∷ ps) low = omega (arith, bytes_append p (c ∷ join_with_byte c (q ∷ ps)), one_byte c (join_with_byte c (q ∷ ps)) low, join_bytes c q ps low)

-- texts that aren't longer in all aren't longer joined
pub joined_shorter : (c : ℕ) (ps qs : List (List ℕ)) → c < 128 → total ps ≤ total qs → bytes_of (join_with_byte c ps) ≤ bytes_of (join_with_byte c qs)
joined_shorter c [] qs low le = omega arith
joined_shorter c (p ∷ ps) [] low le = absurd (omega (arith, le))
joined_shorter c (p ∷ ps) (q ∷ qs) low le = omega (arith, join_bytes c p ps low, join_bytes c q qs low, le)

pub join_encodes : (c : ℕ) (ps : List (List ℕ)) → c < 128 → encode_utf8_all (join_with_byte c ps) ≡ join_with_byte c (map encode_utf8_all ps)
join_encodes c [] low = refl
join_encodes c (p ∷ []) low = refl
join_encodes c (p ∷ q ∷ ps) low =
    encodes-append p (c ∷ join_with_byte c (q ∷ ps)) ∙ ap (λ (u : List ℕ). encode_utf8_all p ++ (u ++ encode_utf8_all (join_with_byte c (q ∷ ps)))) (encode_ascii c low) ∙ ap (λ (u : List ℕ). encode_utf8_all p ++ c ∷ u) (join_encodes c (q ∷ ps) low)

-- the characters of joined texts
pub scalars_joined : (c : ℕ) (ps : List (List ℕ)) → c < 128 → list_all all_scalars ps ≡ true → all_scalars (join_with_byte c ps) ≡ true
scalars_joined c [] low e = refl
scalars_joined c (p ∷ []) low e = (and_parts (all_scalars p) true e).0
scalars_joined c (p ∷ q ∷ ps) low e =
    let a = and_parts (all_scalars p) (list_all all_scalars (q ∷ ps)) e in
    let between : all_scalars (c ∷ []) ≡ true = low_scalars (c ∷ []) (and_from _ _ (lt-ltb c 128 low) refl) in
    scalars_append p (c ∷ join_with_byte c (q ∷ ps)) a.0 (scalars_append (c ∷ []) (join_with_byte c (q ∷ ps)) between (scalars_joined c (q ∷ ps) low a.1))

pub scalars_each : (c : ℕ) (ps : List (List ℕ)) → all_scalars (join_with_byte c ps) ≡ true → list_all all_scalars ps ≡ true
scalars_each c [] e = refl
scalars_each c (p ∷ []) e = and_from _ _ e refl
scalars_each c (p ∷ q ∷ ps) e =
    and_from _ _ (scalars_front p (c ∷ join_with_byte c (q ∷ ps)) e) (scalars_each c (q ∷ ps) (scalars_back (c ∷ []) (join_with_byte c (q ∷ ps)) (scalars_back p (c ∷ join_with_byte c (q ∷ ps)) e)))
