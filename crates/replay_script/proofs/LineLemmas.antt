-- The first line of a text.
use Rattle.std.proofs.Common.{◌≡◌, ◌≢◌, ℕ, ◌+◌, ◌-◌, ◌<◌, ◌==◌, Bool, true, false, List, [], ◌∷◌, ◌++◌, length, get_or, take, drop, refl, sym, ap, ◌∙◌, arith, add-one, drop-cons}
use Rattle.std.proofs.Math.Dec.{eqb-suc-zero}
use Rattle.std.specs.List.{All, slice_split}
use Rattle.std.specs.Str.Lines.{lines, lines_of_parts, strip_carriage_return}
use Rattle.std.proofs.lemmas.Bool.Decides.{nat_tests}
use Rattle.std.proofs.lemmas.List.{get_or_default, take-append-drop, take_all, length-drop, length-take-le, get_or-take}
use Rattle.std.proofs.lemmas.List.Splits.{slice_split_none, slice_split_at, length-slice_split}

abbrev is_newline : ℕ → Bool
is_newline b = b == 10

other : (b : ℕ) → b ≢ 10 → is_newline b ≡ false
other b h = grind (arith, nat_tests)

same_newline : (b : ℕ) → b ≡ 10 → is_newline b ≡ true
same_newline b h = grind (arith, nat_tests)

none_in : (xs : List ℕ) → ((k : ℕ) → k < length xs → get_or xs k 0 ≢ 10) → All (λ b. is_newline b ≡ false) xs
none_in xs h = λ k d lt. rw (get_or_default xs k d 0 lt) (other (get_or xs k 0) (h k lt))

not_empty : (xs : List ℕ) → 0 < length xs → lines_of_parts (xs ∷ []) ≡ xs ∷ []
not_empty [] h = absurd (omega arith)
not_empty (x ∷ xs) h = rw (eqb-suc-zero (length xs)) refl

pub last_line : (xs : List ℕ) → 0 < length xs → ((k : ℕ) → k < length xs → get_or xs k 0 ≢ 10) → lines xs ≡ xs ∷ lines []
last_line xs some h = ap lines_of_parts (slice_split_none is_newline xs (none_in xs h)) ∙ not_empty xs some

onto_parts : (x : List ℕ) (parts : List (List ℕ)) → 0 < length parts → lines_of_parts (x ∷ parts) ≡ strip_carriage_return x ∷ lines_of_parts parts
onto_parts x [] h = absurd (omega arith)
onto_parts x (y ∷ more) h = refl

line_before : (xs : List ℕ) (c : ℕ) (ys : List ℕ) → c ≡ 10 → ((k : ℕ) → k < length xs → get_or xs k 0 ≢ 10) → lines (xs ++ c ∷ ys) ≡ strip_carriage_return xs ∷ lines ys
line_before xs c ys e h =
    ap lines_of_parts (slice_split_at is_newline xs c ys (none_in xs h) (same_newline c e))
    ∙ onto_parts xs (slice_split is_newline ys) (omega (arith, length-slice_split is_newline ys))

pub line_at : (bs : List ℕ) (i : ℕ) → i < length bs → get_or bs i 0 ≡ 10 → ((k : ℕ) → k < i → get_or bs k 0 ≢ 10) → lines bs ≡ strip_carriage_return (take i bs) ∷ lines (take (length bs - (i + 1)) (drop (i + 1) bs))
line_at bs i lt here before =
    let parts : take i bs ++ (get_or bs i 0 ∷ drop (i + 1) bs) ≡ bs = ap (λ (x : List ℕ). take i bs ++ x) (sym (rw add-one (drop-cons bs i 0 lt))) ∙ take-append-drop i bs in
    let rest : take (length bs - (i + 1)) (drop (i + 1) bs) ≡ drop (i + 1) bs = take_all _ _ (omega (arith, length-drop (i + 1) bs)) in
    ap lines (sym parts)
    ∙ line_before (take i bs) (get_or bs i 0) (drop (i + 1) bs) here (λ k h. let below : k < i = omega (arith, length-take-le i bs (omega arith)) in rw (get_or-take i bs k 0 below) (before k below))
    ∙ ap (λ (x : List ℕ). strip_carriage_return (take i bs) ∷ lines x) (sym rest)
