-- The canonical texts of EVs, IVs and levels.
use Rattle.std.proofs.Common.{◌≡◌, ◌≢◌, ℕ, zero, suc, ◌+◌, ◌/◌, ◌%◌, ◌^◌, ◌<◌, ◌≤◌, ◌&&◌, Bool, true, false, not, cond, eqb, leb, eq-eqb, List, [], ◌∷◌, ◌++◌, length, map, replicate, decimal, refl, sym, ap, ◌∙◌, inl, inr, arith}
use Rattle.std.specs.List.{list_all, AllByRecursion, join_with_byte}
use Rattle.std.proofs.lemmas.Bool.{leb-true, le-leb, eqb-true, ne_eqb, lt-ltb, cases_eq, and_parts, or_cases, and_from, or_left, or_right}
use Rattle.std.proofs.lemmas.Fmt.{decimal_by_steps, length-decimal-le, decimal_nonempty}
use Rattle.std.proofs.lemmas.List.{length-map}
use Rattle.std.proofs.lemmas.List.Folds.{list_all-append}
use Rattle.std.proofs.lemmas.List.Splits.{join_with_byte-slice_split}
use Rattle.ps_packed.specs.Forms.{Form, are_digits, number_after, number_of, is_number, parts, is_spread_char, are_numbers, is_zero, is_spread, is_level, evs, ivs, level, in_form}
use Rattle.ps_packed.specs.Packed.{six, evs_of, iv_of, ivs_of, level_of, bytes_of}
use Rattle.ps_packed.specs.Canon.{are_all, ev_text, evs_text, iv_text, ivs_text, level_text}
use Rattle.ps_packed.proofs.Laws.{is_low}
use Rattle.ps_packed.proofs.LevelLaws.{IsNumber, number_facts, number_made, number_append, level_facts, level_made}
use Rattle.ps_packed.proofs.SpreadLaws.{spread_cases, numbers_facts, numbers_made, zero_is, empty_number}
use Rattle.ps_packed.proofs.Bytes.{low_bytes, length_bytes}
use Rattle.ps_packed.proofs.Unique.{Lacks, split_join}
use Rattle.ps_packed.proofs.Joins.{total, joined_shorter}

-- ---- digits

pub record IsDecimal (n : ℕ) (w : List ℕ) : Type 0 where
  pub digits : are_digits w ≡ true
  pub value : number_of w ≡ n

digit_ok : (d : ℕ) → d < 10 → are_digits ((48 + d) ∷ []) ≡ true
digit_ok d lt = and_from _ _ (and_from _ _ (le-leb 48 (48 + d) (omega arith)) (le-leb (48 + d) 57 (omega (arith, lt)))) refl

one_digit : (n : ℕ) → n < 10 → IsDecimal n ((48 + n) ∷ [])
one_digit n lt = record { digits = digit_ok n lt; value = omega arith }

more_digits : (n : ℕ) (ds : List ℕ) → 10 ≤ n → IsDecimal (n / 10) ds → IsDecimal n (ds ++ (48 + n % 10) ∷ [])
more_digits n ds le f = record {
  digits = list_all-append (λ c. leb 48 c && leb c 57) ds ((48 + n % 10) ∷ []) ∙ and_from _ _ f.digits (digit_ok (n % 10) (omega arith));
  value = number_append 0 ds ((48 + n % 10) ∷ []) ∙ ap (λ k. number_after k ((48 + n % 10) ∷ [])) f.value ∙ omega arith;
}

pub is_decimal : (n : ℕ) → n < 2 ^ 64 → IsDecimal n (decimal n)
is_decimal n lt = decimal_by_steps IsDecimal one_digit more_digits n lt

digit_small : (c : ℕ) (w : List ℕ) → are_digits (c ∷ w) ≡ true → c ≤ 57
digit_small c w e =
    let a = and_parts (leb 48 c && leb c 57) (are_digits w) e in
    let b = and_parts (leb 48 c) (leb c 57) a.0 in
    leb-true _ _ b.1

rest_digits : (c : ℕ) (w : List ℕ) → are_digits (c ∷ w) ≡ true → are_digits w ≡ true
rest_digits c w e = (and_parts (leb 48 c && leb c 57) (are_digits w) e).1

digits_bound : (w : List ℕ) → are_digits w ≡ true → length w ≤ 3 → number_of w < 10 ^ length w
digits_bound [] e le = omega arith
digits_bound (a ∷ []) e le = omega (arith, digit_small a [] e)
digits_bound (a ∷ b ∷ []) e le = omega (arith, digit_small a (b ∷ []) e, digit_small b [] (rest_digits a (b ∷ []) e))
digits_bound (a ∷ b ∷ c ∷ []) e le = omega (arith, digit_small a (b ∷ c ∷ []) e, digit_small b (c ∷ []) (rest_digits a (b ∷ c ∷ []) e), digit_small c [] (rest_digits b (c ∷ []) (rest_digits a (b ∷ c ∷ []) e)))
digits_bound (a ∷ b ∷ c ∷ d ∷ w) e le = absurd (omega (arith, le))

digits_low : (w : List ℕ) → are_digits w ≡ true → list_all is_low w ≡ true
digits_low [] e = refl
digits_low (c ∷ w) e = and_from _ _ (lt-ltb c 128 (omega (arith, digit_small c w e))) (digits_low w (rest_digits c w e))

-- the decimal of a number that some text spells isn't longer than that text
decimal_short : (most : ℕ) (p : List ℕ) → IsNumber most p → 0 < length p → number_of p < 2 ^ 64 → length (decimal (number_of p)) ≤ length p
decimal_short most p f some small = length-decimal-le (length p) (number_of p) some (digits_bound p f.digits f.short) small

pub record IsSpelled (most : ℕ) (of : List ℕ → ℕ) (text : ℕ → List ℕ) (p : List ℕ) : Type 0 where
  pub fits : is_number most (text (of p)) ≡ true
  pub back : of (text (of p)) ≡ of p
  pub short : bytes_of (text (of p)) ≤ bytes_of p

pub record IsWritten (most : ℕ) (p : List ℕ) : Type 0 where
  pub fits : is_number most (decimal (number_of p)) ≡ true
  pub value : number_of (decimal (number_of p)) ≡ number_of p
  pub short : bytes_of (decimal (number_of p)) ≤ bytes_of p

pub written : (most : ℕ) (p : List ℕ) → most < 256 → IsNumber most p → 0 < length p → IsWritten most p
written most p lt f some =
    let small : number_of p < 2 ^ 64 = omega (arith, f.small, lt) in
    let d = is_decimal (number_of p) small in
    let short = decimal_short most p f some small in
    record {
      fits = number_made most (decimal (number_of p)) (record { digits = d.digits; short = omega (arith, short, f.short); small = omega (arith, d.value, f.small) });
      value = d.value;
      short = omega (arith, short, low_bytes (decimal (number_of p)) (digits_low (decimal (number_of p)) d.digits), length_bytes p);
    }

some_of : (p : List ℕ) → number_of p ≢ 0 → 0 < length p
some_of [] ne = absurd (ne refl)
some_of (c ∷ p) ne = omega arith

spelled_none : (most : ℕ) (of : List ℕ → ℕ) (text : ℕ → List ℕ) (p : List ℕ) → text (of p) ≡ [] → of [] ≡ of p → IsSpelled most of text p
spelled_none most of text p e h = record { fits = ap (is_number most) e ∙ empty_number most; back = ap of e ∙ h; short = omega (arith, ap bytes_of e) }

pub ev_spelled : (p : List ℕ) → is_number 255 p ≡ true → IsSpelled 255 number_of ev_text p
unfolding ev_text
ev_spelled p e = elim (cases_eq (number_of p) 0) [
  | inl h ↦ spelled_none 255 number_of ev_text p (ap ev_text h) (sym h)
  | inr ne ↦ (let w = written 255 p (omega arith) (number_facts 255 p e) (some_of p ne) in
      let text : ev_text (number_of p) ≡ decimal (number_of p) = rw (ne_eqb _ _ ne) refl in
      record { fits = ap (is_number 255) text ∙ w.fits; back = ap number_of text ∙ w.value; short = omega (arith, ap bytes_of text, w.short) })
]

iv_some : (w : List ℕ) → 0 < length w → iv_of w ≡ number_of w
iv_some [] lt = absurd (omega (arith, lt))
iv_some (c ∷ w) lt = refl

pub iv_spelled : (p : List ℕ) → is_number 31 p ≡ true → IsSpelled 31 iv_of iv_text p
unfolding iv_text
iv_spelled [] e = spelled_none 31 iv_of iv_text [] refl refl
iv_spelled (c ∷ p) e = elim (cases_eq (number_of (c ∷ p)) 31) [
  | inl h ↦ spelled_none 31 iv_of iv_text (c ∷ p) (ap iv_text h) (sym h)
  | inr ne ↦ (let f = number_facts 31 (c ∷ p) e in
      let w = written 31 (c ∷ p) (omega arith) f (omega arith) in
      let n : ℕ = number_of (c ∷ p) in
      let text : iv_text n ≡ decimal n = rw (ne_eqb _ _ ne) refl in
      let some : 0 < length (decimal n) = decimal_nonempty n (omega (arith, f.small)) in
      record { fits = ap (is_number 31) text ∙ w.fits; back = ap iv_of text ∙ iv_some (decimal n) some ∙ w.value; short = omega (arith, ap bytes_of text, w.short) })
]

-- ---- six of them

record AreSpelled (most : ℕ) (of : List ℕ → ℕ) (text : ℕ → List ℕ) (ps : List (List ℕ)) : Type 0 where
  fits : list_all (is_number most) (map text (map of ps)) ≡ true
  back : map of (map text (map of ps)) ≡ map of ps
  short : total (map text (map of ps)) ≤ total ps
  count : length (map text (map of ps)) ≡ length ps

all_spelled : (most : ℕ) (of : List ℕ → ℕ) (text : ℕ → List ℕ) → ((p : List ℕ) → is_number most p ≡ true → IsSpelled most of text p) → (ps : List (List ℕ)) → list_all (is_number most) ps ≡ true → AreSpelled most of text ps
all_spelled most of text each [] e = record { fits = refl; back = refl; short = omega arith; count = refl }
all_spelled most of text each (p ∷ ps) e =
    let a = and_parts (is_number most p) (list_all (is_number most) ps) e in
    let s = each p a.0 in
    let later = all_spelled most of text each ps a.1 in
    record {
      fits = and_from _ _ s.fits later.fits;
      back = ap (λ (n : ℕ). n ∷ map of (map text (map of ps))) s.back ∙ ap (λ (ns : List ℕ). of p ∷ ns) later.back;
      short = omega (arith, s.short, later.short);
      count = ap suc later.count;
    }

digit_lacks : (w : List ℕ) → are_digits w ≡ true → Lacks 44 w
digit_lacks [] e = refl
digit_lacks (c ∷ w) e =
    let a = and_parts (leb 48 c && leb c 57) (are_digits w) e in
    let b = and_parts (leb 48 c) (leb c 57) a.0 in
    let le : 48 ≤ c = leb-true _ _ b.0 in
    and_from _ _ (ap not (ne_eqb c 44 (λ z. omega (arith, z, le)))) (digit_lacks w a.1)

all_lack : (most : ℕ) (ps : List (List ℕ)) → list_all (is_number most) ps ≡ true → AllByRecursion (Lacks 44) ps
all_lack most [] e = tt
all_lack most (p ∷ ps) e = let a = and_parts (is_number most p) (list_all (is_number most) ps) e in (digit_lacks p (number_facts most p a.0).digits, all_lack most ps a.1)

digit_spread : (w : List ℕ) → are_digits w ≡ true → list_all is_spread_char w ≡ true
digit_spread [] e = refl
digit_spread (c ∷ w) e = let a = and_parts (leb 48 c && leb c 57) (are_digits w) e in and_from _ _ (or_left _ _ a.0) (digit_spread w a.1)

spread_joined : (most : ℕ) (ps : List (List ℕ)) → list_all (is_number most) ps ≡ true → list_all is_spread_char (join_with_byte 44 ps) ≡ true
spread_joined most [] e = refl
spread_joined most (p ∷ []) e = let a = and_parts (is_number most p) true e in digit_spread p (number_facts most p a.0).digits
spread_joined most (p ∷ q ∷ ps) e =
    let a = and_parts (is_number most p) (list_all (is_number most) (q ∷ ps)) e in
    list_all-append is_spread_char p (44 ∷ join_with_byte 44 (q ∷ ps)) ∙ and_from _ _ (digit_spread p (number_facts most p a.0).digits) (and_from _ _ refl (spread_joined most (q ∷ ps) a.1))

-- six texts joined
record IsJoined (most : ℕ) (qs : List (List ℕ)) : Type 0 where
  numbers : are_numbers most (join_with_byte 44 qs) ≡ true
  parts_are : parts (join_with_byte 44 qs) ≡ qs

joined : (most : ℕ) (qs : List (List ℕ)) → length qs ≡ 6 → list_all (is_number most) qs ≡ true → IsJoined most qs
joined most [] six e = absurd (omega (arith, six))
joined most (q ∷ qs) six e =
    let are : parts (join_with_byte 44 (q ∷ qs)) ≡ q ∷ qs = split_join 44 q qs (all_lack most (q ∷ qs) e) in
    record { numbers = numbers_made most (join_with_byte 44 (q ∷ qs)) (record { chars = spread_joined most (q ∷ qs) e; each = ap (list_all (is_number most)) are ∙ e }); parts_are = are }

six_fit : (zero_alone : Bool) (most : ℕ) (w : List ℕ) → are_numbers most w ≡ true → length (parts w) ≡ 6 → is_spread zero_alone most w ≡ true
six_fit zero_alone most [] e six = refl
six_fit zero_alone most (c ∷ w) e six = or_right (zero_alone && is_zero (c ∷ w)) _ (and_from _ _ e (eq-eqb _ _ six))

not_zero : (w : List ℕ) → length (parts w) ≡ 6 → is_zero w ≡ false
not_zero w six = elim (is_zero w) as (λ b. (is_zero w ≡ b → b ≡ false)) [
  | true ↦ λ h. absurd (omega (arith, six, ap (λ (u : List ℕ). length (parts u)) (zero_is w h)))
  | false ↦ λ h. refl
] refl

evs_six : (w : List ℕ) → length (parts w) ≡ 6 → w ≢ [] → evs_of w ≡ map number_of (parts w)
evs_six [] six ne = absurd (ne refl)
evs_six (c ∷ w) six ne = rw (not_zero (c ∷ w) six) refl

ivs_six : (w : List ℕ) → w ≢ [] → ivs_of w ≡ map iv_of (parts w)
ivs_six [] ne = absurd (ne refl)
ivs_six (c ∷ w) ne = refl

not_nil : (w : List ℕ) → length (parts w) ≡ 6 → w ≢ []
not_nil w six e = omega (arith, six, ap (λ (u : List ℕ). length (parts u)) e)

spread_low : (w : List ℕ) → list_all is_spread_char w ≡ true → list_all is_low w ≡ true
spread_low [] e = refl
spread_low (c ∷ w) e =
    let a = and_parts (is_spread_char c) (list_all is_spread_char w) e in
    let low : c < 128 = elim (or_cases (leb 48 c && leb c 57) (eqb c 44) a.0) [
      | inl h ↦ (let b = and_parts (leb 48 c) (leb c 57) h in let le : c ≤ 57 = leb-true _ _ b.1 in omega (arith, le))
      | inr h ↦ (let k : c ≡ 44 = eqb-true _ _ h in omega (arith, k))
    ] in
    and_from _ _ (lt-ltb c 128 low) (spread_low w a.1)

all_same : (n k : ℕ) (ns : List ℕ) → length ns ≡ k → are_all n ns ≡ true → ns ≡ replicate k n
all_same n zero [] e h = refl
all_same n zero (m ∷ ns) e h = absurd (omega (arith, e))
all_same n (suc k) [] e h = absurd (omega (arith, e))
all_same n (suc k) (m ∷ ns) e h = let a = and_parts (eqb m n) (are_all n ns) h in ap (λ (x : ℕ). x ∷ ns) (eqb-true _ _ a.0) ∙ ap (λ (u : List ℕ). n ∷ u) (all_same n k ns (omega (arith, e)) a.1)

all_six : (n : ℕ) (ns : List ℕ) → length ns ≡ 6 → are_all n ns ≡ true → ns ≡ six n
all_six n ns count e = all_same n 6 ns count e

-- what the canonical text of a field keeps
pub record IsCanon (f : Form) (of text : List ℕ → List ℕ) (w : List ℕ) : Type 0 where
  pub fits : in_form f (text (of w)) ≡ true
  pub back : of (text (of w)) ≡ of w
  pub short : bytes_of (text (of w)) ≤ bytes_of w
  pub low : list_all is_low (text (of w)) ≡ true

-- six numbers that aren't all alike
record IsJoin (zero_alone : Bool) (most : ℕ) (of : List ℕ → ℕ) (text : ℕ → List ℕ) (w : List ℕ) : Type 0 where
  join : List ℕ
  join_is : join ≡ join_with_byte 44 (map text (map of (parts w)))
  fits : is_spread zero_alone most join ≡ true
  six_parts : length (parts join) ≡ 6
  back : map of (parts join) ≡ map of (parts w)
  short : bytes_of join ≤ bytes_of w
  low : list_all is_low join ≡ true

rejoined : (zero_alone : Bool) (most : ℕ) (of : List ℕ → ℕ) (text : ℕ → List ℕ) → ((p : List ℕ) → is_number most p ≡ true → IsSpelled most of text p) → (w : List ℕ) → are_numbers most w ≡ true → length (parts w) ≡ 6 → IsJoin zero_alone most of text w
rejoined zero_alone most of text each w e six =
    let s = all_spelled most of text each (parts w) (numbers_facts most w e).each in
    let qs : List (List ℕ) = map text (map of (parts w)) in
    let count : length qs ≡ 6 = s.count ∙ six in
    let j = joined most qs count s.fits in
    let six' : length (parts (join_with_byte 44 qs)) ≡ 6 = ap length j.parts_are ∙ count in
    record {
      join = join_with_byte 44 qs;
      join_is = refl;
      fits = six_fit zero_alone most (join_with_byte 44 qs) j.numbers six';
      six_parts = six';
      back = ap (map of) j.parts_are ∙ s.back;
      short = omega (arith, joined_shorter 44 qs (parts w) (omega arith) s.short, ap bytes_of (join_with_byte-slice_split 44 w));
      low = spread_low (join_with_byte 44 qs) (numbers_facts most (join_with_byte 44 qs) j.numbers).chars;
    }

-- ---- EVs

-- what the canonical text is where the numbers are told
record Makes (f : Form) (of : List ℕ → List ℕ) (w ns t : List ℕ) : Type 0 where
  fits : in_form f t ≡ true
  back : of t ≡ ns
  short : bytes_of t ≤ bytes_of w
  low : list_all is_low t ≡ true

evs_none : (w : List ℕ) → Makes evs evs_of w (six 252) []
unfolding in_form
evs_none w = record { fits = refl; back = refl; short = omega arith; low = refl }

evs_zero : (w : List ℕ) → 1 ≤ length w → Makes evs evs_of w (six 0) (48 ∷ [])
unfolding in_form
evs_zero w some = record { fits = refl; back = refl; short = omega (arith, length_bytes w, some, low_bytes (48 ∷ []) refl); low = refl }

evs_join : (w ns : List ℕ) → ns ≡ map number_of (parts w) → are_numbers 255 w ≡ true → length (parts w) ≡ 6 → Makes evs evs_of w ns (join_with_byte 44 (map ev_text ns))
unfolding in_form
evs_join w ns is e six =
    let j = rejoined true 255 number_of ev_text ev_spelled w e six in
    let same : join_with_byte 44 (map ev_text ns) ≡ j.join = ap (λ (u : List ℕ). join_with_byte 44 (map ev_text u)) is ∙ sym j.join_is in
    rw same (record { fits = j.fits; back = evs_six j.join j.six_parts (not_nil j.join j.six_parts) ∙ j.back ∙ sym is; short = j.short; low = j.low })

evs_cases : (a z : Bool) (w ns : List ℕ) → 1 ≤ length w → length ns ≡ 6 → are_all 252 ns ≡ a → are_all 0 ns ≡ z → Makes evs evs_of w ns (join_with_byte 44 (map ev_text ns)) → Makes evs evs_of w ns (cond a [] (cond z (48 ∷ []) (join_with_byte 44 (map ev_text ns))))
evs_cases true z w ns some count ea ez m = rw (all_six 252 ns count ea) (evs_none w)
evs_cases false true w ns some count ea ez m = rw (all_six 0 ns count ez) (evs_zero w some)
evs_cases false false w ns some count ea ez m = m

evs_made : (w ns : List ℕ) → ns ≡ map number_of (parts w) → 1 ≤ length w → are_numbers 255 w ≡ true → length (parts w) ≡ 6 → Makes evs evs_of w ns (evs_text ns)
unfolding evs_text
evs_made w ns is some e six = evs_cases (are_all 252 ns) (are_all 0 ns) w ns some (ap length is ∙ length-map (parts w) number_of ∙ six) refl refl (evs_join w ns is e six)

evs_zero_text : evs_text (six 0) ≡ 48 ∷ []
unfolding evs_text
evs_zero_text = refl

evs_none_text : evs_text (six 252) ≡ []
unfolding evs_text
evs_none_text = refl

evs_from : (w ns : List ℕ) → evs_of w ≡ ns → Makes evs evs_of w ns (evs_text ns) → IsCanon evs evs_of evs_text w
evs_from w ns is m = record {
  fits = ap (λ (u : List ℕ). in_form evs (evs_text u)) is ∙ m.fits;
  back = ap (λ (u : List ℕ). evs_of (evs_text u)) is ∙ m.back ∙ sym is;
  short = omega (arith, ap (λ (u : List ℕ). bytes_of (evs_text u)) is, m.short);
  low = ap (λ (u : List ℕ). list_all is_low (evs_text u)) is ∙ m.low;
}

pub evs_canon : (w : List ℕ) → in_form evs w ≡ true → IsCanon evs evs_of evs_text w
unfolding in_form
evs_canon [] e = evs_from [] (six 252) refl (rw evs_none_text (evs_none []))
evs_canon (c ∷ w) e = elim (spread_cases true 255 c w e) [
  | inl h ↦ (let is : evs_of (c ∷ w) ≡ six 0 = rw h.1 refl in
      evs_from (c ∷ w) (six 0) is (rw evs_zero_text (evs_zero (c ∷ w) (omega arith))))
  | inr h ↦ (let is : evs_of (c ∷ w) ≡ map number_of (parts (c ∷ w)) = evs_six (c ∷ w) h.1 (not_nil (c ∷ w) h.1) in
      evs_from (c ∷ w) (map number_of (parts (c ∷ w))) is (evs_made (c ∷ w) (map number_of (parts (c ∷ w))) refl (omega arith) h.0 h.1))
]

-- ---- IVs

ivs_none : (w : List ℕ) → Makes ivs ivs_of w (six 31) []
unfolding in_form
ivs_none w = record { fits = refl; back = refl; short = omega arith; low = refl }

ivs_join : (w ns : List ℕ) → ns ≡ map iv_of (parts w) → are_numbers 31 w ≡ true → length (parts w) ≡ 6 → Makes ivs ivs_of w ns (join_with_byte 44 (map iv_text ns))
unfolding in_form
ivs_join w ns is e six =
    let j = rejoined false 31 iv_of iv_text iv_spelled w e six in
    let same : join_with_byte 44 (map iv_text ns) ≡ j.join = ap (λ (u : List ℕ). join_with_byte 44 (map iv_text u)) is ∙ sym j.join_is in
    rw same (record { fits = j.fits; back = ivs_six j.join (not_nil j.join j.six_parts) ∙ j.back ∙ sym is; short = j.short; low = j.low })

ivs_cases : (a : Bool) (w ns : List ℕ) → length ns ≡ 6 → are_all 31 ns ≡ a → Makes ivs ivs_of w ns (join_with_byte 44 (map iv_text ns)) → Makes ivs ivs_of w ns (cond a [] (join_with_byte 44 (map iv_text ns)))
ivs_cases true w ns count ea m = rw (all_six 31 ns count ea) (ivs_none w)
ivs_cases false w ns count ea m = m

ivs_made : (w ns : List ℕ) → ns ≡ map iv_of (parts w) → are_numbers 31 w ≡ true → length (parts w) ≡ 6 → Makes ivs ivs_of w ns (ivs_text ns)
unfolding ivs_text
ivs_made w ns is e six = ivs_cases (are_all 31 ns) w ns (ap length is ∙ length-map (parts w) iv_of ∙ six) refl (ivs_join w ns is e six)

ivs_none_text : ivs_text (six 31) ≡ []
unfolding ivs_text
ivs_none_text = refl

ivs_from : (w ns : List ℕ) → ivs_of w ≡ ns → Makes ivs ivs_of w ns (ivs_text ns) → IsCanon ivs ivs_of ivs_text w
ivs_from w ns is m = record {
  fits = ap (λ (u : List ℕ). in_form ivs (ivs_text u)) is ∙ m.fits;
  back = ap (λ (u : List ℕ). ivs_of (ivs_text u)) is ∙ m.back ∙ sym is;
  short = omega (arith, ap (λ (u : List ℕ). bytes_of (ivs_text u)) is, m.short);
  low = ap (λ (u : List ℕ). list_all is_low (ivs_text u)) is ∙ m.low;
}

pub ivs_canon : (w : List ℕ) → in_form ivs w ≡ true → IsCanon ivs ivs_of ivs_text w
unfolding in_form
ivs_canon [] e = ivs_from [] (six 31) refl (rw ivs_none_text (ivs_none []))
ivs_canon (c ∷ w) e = elim (spread_cases false 31 c w e) [
  | inl h ↦ absurd (let wrong : false ≡ true = h.0 in cc)
  | inr h ↦ ivs_from (c ∷ w) (map iv_of (parts (c ∷ w))) refl (ivs_made (c ∷ w) (map iv_of (parts (c ∷ w))) refl h.0 h.1)
]

-- ---- levels

pub record IsLevelText (w : List ℕ) : Type 0 where
  pub fits : in_form level (level_text (level_of w)) ≡ true
  pub back : level_of (level_text (level_of w)) ≡ level_of w
  pub short : bytes_of (level_text (level_of w)) ≤ bytes_of w
  pub low : list_all is_low (level_text (level_of w)) ≡ true

no_level : level_text 100 ≡ []
unfolding level_text
no_level = refl

hundred : (w : List ℕ) → level_of w ≡ 100 → IsLevelText w
unfolding in_form
hundred w is =
    let text : level_text (level_of w) ≡ [] = ap level_text is ∙ no_level in
    record { fits = ap is_level text; back = ap level_of text ∙ sym is; short = omega (arith, ap bytes_of text); low = ap (list_all is_low) text }

level_some : (w : List ℕ) → 0 < length w → level_of w ≡ number_of w
level_some [] lt = absurd (omega (arith, lt))
level_some (c ∷ w) lt = refl

pub level_canon : (w : List ℕ) → in_form level w ≡ true → IsLevelText w
unfolding level_text in_form
level_canon [] e = hundred [] refl
level_canon (c ∷ w) e = elim (cases_eq (number_of (c ∷ w)) 100) [
  | inl h ↦ hundred (c ∷ w) h
  | inr ne ↦ (let f = level_facts c w e in
      let n : ℕ = number_of (c ∷ w) in
      let x = written 100 (c ∷ w) (omega arith) f.number (omega arith) in
      let text : level_text n ≡ decimal n = rw (ne_eqb _ _ ne) refl in
      let some : 0 < length (decimal n) = decimal_nonempty n (omega (arith, f.number.small)) in
      let num = number_facts 100 (decimal n) x.fits in
      record {
        fits = ap is_level text ∙ level_made (decimal n) (record { number = num; some = omega (arith, x.value, f.some) });
        back = ap level_of text ∙ level_some (decimal n) some ∙ x.value;
        short = omega (arith, ap bytes_of text, x.short);
        low = ap (list_all is_low) text ∙ digits_low (decimal n) num.digits;
      })
]
