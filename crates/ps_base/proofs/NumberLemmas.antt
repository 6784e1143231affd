-- Where a text is the numeral of a number.
use Rattle.std.proofs.Common.{◌≡◌, ◌≢◌, ℕ, ◌^◌, ◌<◌, ◌==◌, Bool, true, false, cond, ltb, not, ◌&&◌, List, [], ◌∷◌, length, get_or, Some, None, Ok, Err, refl, sym, ap, ◌∙◌, arith, inl, inr}
use Rattle.std.specs.Fmt.{decimal}
use Rattle.std.specs.Str.{IsUtf8}
use Rattle.std.specs.Str.Parse.{ParsesUnsigned, AllDigits, digits_value}
use Rattle.std.proofs.lemmas.Bool.{cases_lt, and_parts}
use Rattle.std.proofs.lemmas.Bool.Decides.{nat_tests}
use Rattle.std.proofs.lemmas.Fmt.{decimal_is_IsNumeral, decimal_nonempty, first_decimal, IsAscii-decimal, parse-decimal, decimal-digits_value, decimal_digit}
use Rattle.std.proofs.lemmas.Str.{IsUtf8-from_ascii}
use Rattle.std.proofs.lemmas.Str.Parse.{IsNumeralModel, numerals_by_value, tells_digits, parse_plain}
use Rattle.std.specs.Str.{bytes_eq}
use Rattle.std.proofs.lemmas.Slice.Eq.{bytes_eq-Decides}
use Rattle.ps_base.specs.Numbers.{IsNumeral, is_plain, number_in}

own : IsNumeralModel (AllDigits 10) (digits_value 10)
own = numerals_by_value (AllDigits 10) tells_digits

record Plain (bs : List ℕ) : Type 0 where
  no_plus : get_or bs 0 0 ≢ 43
  some : 0 < length bs
  no_zero : get_or bs 0 0 ≡ 48 → length bs ≡ 1

one_plain : (b : ℕ) → not (b == 43) ≡ true → b ≢ 43
one_plain b h = grind (arith, nat_tests)

two_plain : (b : ℕ) → (not (b == 43) && not (b == 48)) ≡ true → (b ≢ 43) × (b ≢ 48)
two_plain b h = grind (arith, nat_tests)

is_plain-Plain : (bs : List ℕ) → is_plain bs ≡ true → Plain bs
is_plain-Plain [] h = absurd cc
is_plain-Plain (b ∷ []) h = record { no_plus = one_plain b h; some = omega arith; no_zero = λ _. refl }
is_plain-Plain (b ∷ c ∷ bs) h = let t = two_plain b h in record { no_plus = t.0; some = omega arith; no_zero = λ e. absurd (t.1 e) }

one_test : (b : ℕ) → b ≢ 43 → not (b == 43) ≡ true
one_test b h = grind (arith, nat_tests)

two_tests : (b : ℕ) → b ≢ 43 → b ≢ 48 → (not (b == 43) && not (b == 48)) ≡ true
two_tests b h k = grind (arith, nat_tests)

plain_bytes : (bs : List ℕ) → 0 < length bs → get_or bs 0 0 ≢ 43 → (1 < length bs → get_or bs 0 0 ≢ 48) → is_plain bs ≡ true
plain_bytes [] h p z = absurd (omega arith)
plain_bytes (b ∷ []) h p z = one_test b p
plain_bytes (b ∷ c ∷ bs) h p z = two_tests b p (z (omega arith))

plain_decimal : (n : ℕ) → n < 2 ^ 64 → is_plain (decimal n) ≡ true
plain_decimal n small =
    elim (cases_lt 0 n) [
      | inl pos ↦ let above = first_decimal n pos small in plain_bytes (decimal n) (decimal_nonempty n small) (omega arith) (λ _. omega arith)
      | inr none ↦ let e : n ≡ 0 = omega arith in rw (e, decimal_digit 0 (omega arith)) refl
    ]

pub parsed : (E : Type 0) (bs : List ℕ) (n : ℕ) → is_plain bs ≡ true → ParsesUnsigned {E = E} 32 10 bs (Ok n) → IsNumeral bs n
parsed E bs n plain h =
    let p = is_plain-Plain bs plain in
    let q = parse_plain own {E = E} 32 bs (Ok n) h p.no_plus in
    let small : digits_value 10 bs < 2 ^ 32 = q.0.2 in
    record { spelled = sym (decimal-digits_value own bs q.0.0 p.some p.no_zero (omega arith)) ∙ ap decimal (sym q.1); small = rw q.1 small }

pub plain_numeral : (bs : List ℕ) (n : ℕ) → IsNumeral bs n → is_plain bs ≡ true
plain_numeral bs n h = rw h.spelled (plain_decimal n (omega arith))

pub utf8_numeral : (bs : List ℕ) (n : ℕ) → IsNumeral bs n → IsUtf8 bs
utf8_numeral bs n h = rw h.spelled (IsUtf8-from_ascii (decimal n) (IsAscii-decimal n (omega arith)))

pub not_refused : (E : Type 0) (bs : List ℕ) (e : E) (n : ℕ) → ParsesUnsigned 32 10 bs (Err e) → IsNumeral bs n → ⊥
not_refused E bs e n h i = let k : Err e ≡ Ok n = parse-decimal 32 n bs (Err e) i.small (omega arith) i.spelled h in cc

pub number_is : (text : List ℕ) (n : ℕ) → IsNumeral text n → number_in text ≡ Some n
unfolding number_in
number_is text n h =
    let e : digits_value 10 text ≡ n = rw h.spelled ((decimal_is_IsNumeral n (omega arith)).1) in
    let same : bytes_eq text (decimal n) ≡ true = (bytes_eq-Decides text (decimal n)).1 h.spelled in
    let small : ltb n (2 ^ 32) ≡ true = grind (arith, nat_tests, h.small) in
    rw (e, same, small) refl

pub number_none : (text : List ℕ) → ((n : ℕ) → IsNumeral text n → ⊥) → number_in text ≡ None
unfolding number_in
number_none text none = by_test _ refl
  where
    by_test : (b : Bool) → (bytes_eq text (decimal (digits_value 10 text)) && ltb (digits_value 10 text) (2 ^ 32)) ≡ b → cond b (Some (digits_value 10 text)) None ≡ None
    by_test true e =
        let t = and_parts _ _ e in
        let small : digits_value 10 text < 2 ^ 32 = grind (arith, nat_tests, t.1) in
        absurd (none (digits_value 10 text) (record { spelled = (bytes_eq-Decides text (decimal (digits_value 10 text))).0 t.0; small = small }))
    by_test false e = refl
