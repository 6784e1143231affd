-- Plain texts: how they are put together, and that each is the text of a line.
use Rattle.std.proofs.Common.{◌≡◌, ◌≢◌, ℕ, ◌+◌, ◌-◌, ◌^◌, ◌<◌, ◌≤◌, ◌&&◌, Bool, true, false, List, [], ◌∷◌, ◌++◌, length, get_or, take, drop, refl, sym, ap, ◌∙◌, arith, append_assoc, inl, inr}
use Rattle.std.specs.Prelude.{nat_le}
use Rattle.std.specs.Fmt.{decimal}
use Rattle.std.specs.List.{list_all}
use Rattle.std.specs.Str.{IsUtf8, IsAscii}
use Rattle.std.specs.Str.Lines.{lines, strip_carriage_return}
use Rattle.std.proofs.lemmas.Bool.{cases_lt, ne_eqb}
use Rattle.std.proofs.lemmas.Bool.Decides.{nat_tests}
use Rattle.std.proofs.lemmas.Fmt.{decimal_is_IsNumeral, length-decimal-le}
use Rattle.std.proofs.lemmas.List.{length-append, length_push, get_or_at, get_or_append_left, get_or_past, take_at, take_all, drop_at}
use Rattle.std.proofs.lemmas.List.Elements.{All-append, All-from_get_or, All-get_or, All-weaker}
use Rattle.std.proofs.lemmas.List.Folds.{list_any_none}
use Rattle.std.proofs.lemmas.List.Sums.{AllPass-from_list_all}
use Rattle.std.proofs.lemmas.Str.{IsUtf8-from_ascii}
use Rattle.std.proofs.lemmas.Str.Parse.{digit_at}
use Rattle.replay_script.specs.Controls.{is_control, has_control}
use Rattle.replay_script.proofs.LineLemmas.{line_at}
use Rattle.replay_drill.specs.Plain.{IsPlain}

abbrev pub IsPlainByte : ℕ → Type 0
IsPlainByte b = (32 ≤ b) × (b ≤ 126)

-- ---- how they are made

abbrev is_plain_byte : ℕ → Bool
is_plain_byte b = nat_le 32 b && nat_le b 126

byte_plain : (b : ℕ) → is_plain_byte b ≡ true → IsPlainByte b
byte_plain b h = grind (arith, nat_tests)

-- a text that stands in a definition
pub words_plain : (text : List ℕ) → list_all is_plain_byte text ≡ true → IsPlain (length text) text
words_plain text h = record { few = omega arith; plain = All-weaker (λ b. is_plain_byte b ≡ true) IsPlainByte byte_plain text (AllPass-from_list_all is_plain_byte text h) }

digit_plain : (n i : ℕ) → n < 2 ^ 64 → i < length (decimal n) → IsPlainByte (get_or (decimal n) i 0)
digit_plain n i small below = let d = digit_at (decimal n) i (decimal_is_IsNumeral n small).0.1 below in (omega (arith, d.0), omega (arith, d.1))

pub decimal_plain : (k n : ℕ) → 0 < k → n < 10 ^ k → n < 2 ^ 64 → IsPlain k (decimal n)
decimal_plain k n some few small = record { few = length-decimal-le k n some few small; plain = All-from_get_or IsPlainByte (decimal n) 0 (λ i below. digit_plain n i small below) }

pub joined_plain : {a b : ℕ} {xs ys : List ℕ} → IsPlain a xs → IsPlain b ys → IsPlain (a + b) (xs ++ ys)
joined_plain {xs = xs} {ys = ys} p q = record { few = omega (arith, length-append xs ys, p.few, q.few); plain = All-append IsPlainByte xs ys p.plain q.plain }

pub wider_plain : {a b : ℕ} {xs : List ℕ} → IsPlain a xs → a ≤ b → IsPlain b xs
wider_plain p le = record { few = omega (arith, p.few); plain = p.plain }

-- ---- what a line asks

plain_at : (most : ℕ) (xs : List ℕ) (i : ℕ) → i < length xs → IsPlain most xs → IsPlainByte (get_or xs i 0)
plain_at most xs i below p = All-get_or IsPlainByte xs i 0 below p.plain

plain_ascii : (most : ℕ) (xs : List ℕ) → IsPlain most xs → IsAscii xs
plain_ascii most xs p i = elim (cases_lt i (length xs)) [
  | inl below ↦ omega (arith, (plain_at most xs i below p).1)
  | inr past ↦ omega (arith, get_or_past xs i 0 past)
]

pub plain_utf8 : (most : ℕ) (xs : List ℕ) → IsPlain most xs → IsUtf8 xs
plain_utf8 most xs p = IsUtf8-from_ascii xs (plain_ascii most xs p)

byte_no_control : (b : ℕ) → IsPlainByte b → is_control b ≡ false
byte_no_control b h = grind (arith, nat_tests, h.0, h.1)

pub plain_no_control : (most : ℕ) (xs : List ℕ) → IsPlain most xs → has_control xs ≡ false
plain_no_control most xs p = list_any_none is_control xs (All-weaker IsPlainByte (λ b. is_control b ≡ false) byte_no_control xs p.plain)

-- ---- the line that it is

last_plain : (most : ℕ) (xs : List ℕ) → IsPlain most xs → get_or xs (length xs - 1) 0 ≢ 13
last_plain most [] p e = omega (arith, e)
last_plain most (x ∷ xs) p e = let h = plain_at most (x ∷ xs) (length (x ∷ xs) - 1) (omega arith) p in omega (arith, h.0, e)

nothing_stripped : (most : ℕ) (xs : List ℕ) → IsPlain most xs → strip_carriage_return xs ≡ xs
nothing_stripped most xs p = rw (ne_eqb _ 13 (last_plain most xs p))

pub plain_line : (most : ℕ) (xs rest : List ℕ) → IsPlain most xs → lines (xs ++ 10 ∷ rest) ≡ xs ∷ lines rest
plain_line most xs rest p =
    let all : List ℕ = xs ++ 10 ∷ rest in
    let size : length all ≡ length xs + 1 + length rest = omega (arith, length-append xs (10 ∷ rest)) in
    let front : take (length xs) all ≡ xs = take_at xs (10 ∷ rest) (length xs) refl in
    let end : drop (length xs + 1) all ≡ rest = ap (drop (length xs + 1)) (sym (append_assoc xs (10 ∷ []) rest)) ∙ drop_at (xs ++ 10 ∷ []) rest (length xs + 1) (length_push xs 10) in
    let none : (k : ℕ) → k < length xs → get_or all k 0 ≢ 10 = λ k below e. omega (arith, (plain_at most xs k below p).0, get_or_append_left xs (10 ∷ rest) 0 k below, e) in
    line_at all (length xs) (omega (arith, size)) (get_or_at xs 10 rest 0 (length xs) refl) none
    ∙ ap (λ (x : List ℕ). strip_carriage_return x ∷ lines (take (length all - (length xs + 1)) (drop (length xs + 1) all))) front
    ∙ ap (λ (x : List ℕ). strip_carriage_return xs ∷ lines (take (length all - (length xs + 1)) x)) end
    ∙ ap (λ (x : List ℕ). strip_carriage_return xs ∷ lines x) (take_all (length all - (length xs + 1)) rest (omega (arith, size)))
    ∙ ap (λ (x : List ℕ). x ∷ lines rest) (nothing_stripped most xs p)
