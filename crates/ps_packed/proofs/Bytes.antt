-- Characters and their bytes.
use Rattle.std.proofs.Common.{◌≡◌, ℕ, ◌+◌, ◌<◌, ◌≤◌, true, ltb, List, [], ◌∷◌, ◌++◌, length, take, refl, ap, ◌∙◌, arith}
use Rattle.std.specs.List.{list_all}
use Rattle.std.specs.Str.{all_scalars, encode_utf8_all}
use Rattle.std.proofs.lemmas.Bool.{ltb-true, lt-ltb, and_parts, and_from}
use Rattle.std.proofs.lemmas.List.{length-append, take-append-drop}
use Rattle.std.proofs.lemmas.Str.{encodes-append, encode_ascii, length-le-encodes}
use Rattle.ps_packed.specs.Packed.{bytes_of}
use Rattle.ps_packed.proofs.Laws.{is_low}

pub bytes_append : (a b : List ℕ) → bytes_of (a ++ b) ≡ bytes_of a + bytes_of b
bytes_append a b = ap length (encodes-append a b) ∙ length-append (encode_utf8_all a) (encode_utf8_all b)

pub length_bytes : (a : List ℕ) → length a ≤ bytes_of a
length_bytes a = length-le-encodes a

-- ASCII characters are their bytes
pub low_encodes : (a : List ℕ) → list_all is_low a ≡ true → encode_utf8_all a ≡ a
low_encodes [] e = refl
low_encodes (c ∷ a) e =
    let h = and_parts (ltb c 128) (list_all is_low a) e in
    let lt : c < 128 = ltb-true _ _ h.0 in
    ap (λ (u : List ℕ). u ++ encode_utf8_all a) (encode_ascii c lt) ∙ ap (λ (u : List ℕ). c ∷ u) (low_encodes a h.1)

pub low_bytes : (a : List ℕ) → list_all is_low a ≡ true → bytes_of a ≡ length a
low_bytes a e = ap length (low_encodes a e)

pub low_scalars : (a : List ℕ) → list_all is_low a ≡ true → all_scalars a ≡ true
low_scalars [] e = refl
low_scalars (c ∷ a) e =
    let h = and_parts (ltb c 128) (list_all is_low a) e in
    let lt : c < 128 = ltb-true _ _ h.0 in
    and_from _ _ (rw (lt-ltb c 55296 (omega (arith, lt))) refl) (low_scalars a h.1)

pub scalars_append : (a b : List ℕ) → all_scalars a ≡ true → all_scalars b ≡ true → all_scalars (a ++ b) ≡ true
scalars_append [] b e h = h
scalars_append (c ∷ a) b e h = let k = and_parts _ (all_scalars a) e in and_from _ _ k.0 (scalars_append a b k.1 h)

pub scalars_front : (a b : List ℕ) → all_scalars (a ++ b) ≡ true → all_scalars a ≡ true
scalars_front [] b e = refl
scalars_front (c ∷ a) b e = let k = and_parts _ (all_scalars (a ++ b)) e in and_from _ _ k.0 (scalars_front a b k.1)

pub scalars_take : (n : ℕ) (text : List ℕ) → all_scalars text ≡ true → all_scalars (take n text) ≡ true
scalars_take n text e = scalars_front (take n text) _ (ap all_scalars (take-append-drop n text) ∙ e)

pub scalars_back : (a b : List ℕ) → all_scalars (a ++ b) ≡ true → all_scalars b ≡ true
scalars_back [] b e = e
scalars_back (c ∷ a) b e = let k = and_parts _ (all_scalars (a ++ b)) e in scalars_back a b k.1
