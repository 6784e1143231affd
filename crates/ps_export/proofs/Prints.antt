-- What the texts of a team's fields are as bytes.
use Rattle.std.proofs.Common.{◌≡◌, ℕ, suc, ◌<◌, ◌≤◌, true, false, leb, List, [], ◌∷◌, ◌++◌, length, get_or, refl, sym, ap, ◌∙◌, inl, inr, arith}
use Rattle.std.specs.Char.{encode_utf8}
use Rattle.std.specs.Str.{encode_utf8_all}
use Rattle.std.specs.List.{list_all}
use Rattle.std.proofs.lemmas.Bool.{cases_lt, le-leb, and_parts, and_from}
use Rattle.std.proofs.lemmas.List.{append-nil}
use Rattle.std.proofs.lemmas.Str.{encode_ascii, inside_one}
use Rattle.ps_packed.specs.Forms.{is_field_char}
use Rattle.ps_packed.proofs.Ids.{wide_bytes}
use Rattle.ps_export.proofs.Spelling.{Printed, printed_append}

all_wide : (bs : List ℕ) → ((k : ℕ) → k < length bs → 128 ≤ get_or bs k 0) → Printed bs
all_wide [] h = refl
all_wide (b ∷ bs) h = and_from _ _ (le-leb 32 b (omega (arith, h 0 (omega arith)))) (all_wide bs (λ k lt. h (suc k) (omega (arith, lt))))

one_printed : (c : ℕ) → is_field_char c ≡ true → Printed (encode_utf8 c)
one_printed c e = elim (cases_lt c 128) [
  | inl low ↦ ap (list_all (λ x. leb 32 x)) (encode_ascii c low) ∙ and_from _ _ (and_parts _ _ (and_parts _ _ e).0).0 refl
  | inr high ↦ all_wide (encode_utf8 c) (wide_bytes c high)
]

pub field_printed : (w : List ℕ) → list_all is_field_char w ≡ true → Printed (encode_utf8_all w)
field_printed [] e = refl
field_printed (c ∷ w) e =
    let a = and_parts (is_field_char c) (list_all is_field_char w) e in
    printed_append (encode_utf8 c) (encode_utf8_all w) (one_printed c a.0) (field_printed w a.1)
