-- The id of a text is that of its characters.
use Rattle.std.proofs.Common.{◌≡◌, ℕ, suc, ◌<◌, ◌≤◌, false, leb, List, [], ◌∷◌, ◌++◌, length, get_or, map, filter, refl, sym, ap, ◌∙◌, inl, inr, arith}
use Rattle.std.specs.Char.{encode_utf8}
use Rattle.std.specs.Str.{encode_utf8_all}
use Rattle.std.proofs.lemmas.Bool.{cases_lt, lt-leb}
use Rattle.std.proofs.lemmas.List.{append-nil, map-append}
use Rattle.std.proofs.lemmas.List.Elements.{filter-append}
use Rattle.std.proofs.lemmas.Str.{encode_ascii, inside_one}
use Rattle.std.proofs.Math.Bool.{and-false}
use Rattle.ps_base.specs.Ids.{lower, is_id_byte, id_of}

pub id_append : (a b : List ℕ) → id_of (a ++ b) ≡ id_of a ++ id_of b
id_append a b = ap (filter is_id_byte) (map-append lower a b) ∙ filter-append is_id_byte (map lower a) (map lower b)

-- what is past ASCII is in no id
past_ascii : (b : ℕ) → 128 ≤ b → is_id_byte (lower b) ≡ false
past_ascii b le =
    let big : leb b 90 ≡ false = lt-leb b 90 (omega (arith, le)) in
    let low : lower b ≡ b = rw (big, and-false (leb 65 b)) refl in
    rw (low, lt-leb b 122 (omega (arith, le)), lt-leb b 57 (omega (arith, le)), and-false (leb 97 b), and-false (leb 48 b)) refl

none_kept : (bs : List ℕ) → ((k : ℕ) → k < length bs → 128 ≤ get_or bs k 0) → id_of bs ≡ []
none_kept [] h = refl
none_kept (b ∷ bs) h = rw (past_ascii b (h 0 (omega arith))) (none_kept bs (λ k lt. h (suc k) (omega (arith, lt))))

pub wide_bytes : (c : ℕ) → 128 ≤ c → (k : ℕ) → k < length (encode_utf8 c) → 128 ≤ get_or (encode_utf8 c) k 0
wide_bytes c le k lt = elim (cases_lt (get_or (encode_utf8 c) k 0) 128) [
  | inl low ↦ absurd (let same = inside_one c [] (encode_utf8 c) k (sym (append-nil (encode_utf8 c))) lt low in omega (arith, same, low, le))
  | inr high ↦ high
]

one_id : (c : ℕ) → id_of (encode_utf8 c) ≡ id_of (c ∷ [])
one_id c = elim (cases_lt c 128) [
  | inl low ↦ ap id_of (encode_ascii c low)
  | inr high ↦ none_kept (encode_utf8 c) (wide_bytes c high) ∙ sym (rw (past_ascii c high) refl)
]

pub id_encodes : (cs : List ℕ) → id_of (encode_utf8_all cs) ≡ id_of cs
id_encodes [] = refl
id_encodes (c ∷ cs) = id_append (encode_utf8 c) (encode_utf8_all cs) ∙ ap (λ (u : List ℕ). u ++ id_of (encode_utf8_all cs)) (one_id c) ∙ ap (λ (u : List ℕ). id_of (c ∷ []) ++ u) (id_encodes cs) ∙ sym (id_append (c ∷ []) cs)
