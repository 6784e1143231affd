-- How long an input is, piece by piece.
use Rattle.std.proofs.Common.{◌≡◌, ℕ, ◌+◌, ◌<◌, ◌≤◌, ◌==◌, nat_le, Bool, true, false, cond, List, [], ◌∷◌, ◌++◌, length, Option, Some, None, refl, sym, ap, ◌∙◌, arith, add-zero}
use Rattle.std.proofs.lemmas.Bool.Decides.{nat_tests}
use Rattle.replay_script.specs.Limits.{long_from, long_of, breaks_from, breaks_of}

choose_none : (a b : Bool) (m n : ℕ) (x : Option ℕ) → cond a (Some m) (cond b (Some n) x) ≡ None → (a ≡ false) × (b ≡ false) × (x ≡ None)
choose_none true b m n x e = absurd cc
choose_none false true m n x e = absurd cc
choose_none false false m n x e = (refl, refl, e)

long_from-append : (size breaks : ℕ) (xs ys : List ℕ) → long_from size breaks xs ≡ None → long_from size breaks (xs ++ ys) ≡ long_from (size + length xs) (breaks_from breaks xs) ys
long_from-append size breaks [] ys e = ap (λ (n : ℕ). long_from n breaks ys) (sym (add-zero size))
long_from-append size breaks (x ∷ xs) ys e =
    let p = choose_none (nat_le 200000 breaks) (nat_le 16777216 size) 200001 16777217 _ e in
    rw (p.0, p.1) (long_from-append (size + 1) (cond (x == 10) (breaks + 1) breaks) xs ys p.2 ∙ ap (λ (n : ℕ). long_from n (breaks_from (cond (x == 10) (breaks + 1) breaks) xs) ys) (omega arith))

choose_some : (a b : Bool) (m n : ℕ) (x y : Option ℕ) (c : ℕ) → (x ≡ Some c → y ≡ Some c) → cond a (Some m) (cond b (Some n) x) ≡ Some c → cond a (Some m) (cond b (Some n) y) ≡ Some c
choose_some true b m n x y c h e = e
choose_some false true m n x y c h e = e
choose_some false false m n x y c h e = h e

pub long_from-stays : (size breaks c : ℕ) (xs ys : List ℕ) → long_from size breaks xs ≡ Some c → long_from size breaks (xs ++ ys) ≡ Some c
long_from-stays size breaks c [] ys e = absurd cc
long_from-stays size breaks c (x ∷ xs) ys e =
    choose_some (nat_le 200000 breaks) (nat_le 16777216 size) 200001 16777217 _ _ c (long_from-stays (size + 1) (cond (x == 10) (breaks + 1) breaks) c xs ys) e

breaks_from-append : (breaks : ℕ) (xs ys : List ℕ) → breaks_from breaks (xs ++ ys) ≡ breaks_from (breaks_from breaks xs) ys
breaks_from-append breaks [] ys = refl
breaks_from-append breaks (x ∷ xs) ys = breaks_from-append (cond (x == 10) (breaks + 1) breaks) xs ys

pub breaks_of_more : (xs : List ℕ) (b : ℕ) → breaks_of (xs ++ b ∷ []) ≡ cond (b == 10) (breaks_of xs + 1) (breaks_of xs)
breaks_of_more xs b = breaks_from-append 0 xs (b ∷ [])

pub past_lines : (all xs rest : List ℕ) (b : ℕ) → all ≡ xs ++ b ∷ rest → long_of xs ≡ None → 200000 ≤ breaks_of xs → long_of all ≡ Some 200001
past_lines all xs rest b e none past =
    let test : nat_le 200000 (breaks_of xs) ≡ true = grind (arith, nat_tests) in
    ap long_of e ∙ long_from-append 0 0 xs (b ∷ rest) none ∙ rw test refl

pub past_bytes : (all xs rest : List ℕ) (b : ℕ) → all ≡ xs ++ b ∷ rest → long_of xs ≡ None → breaks_of xs < 200000 → 16777216 ≤ length xs → long_of all ≡ Some 16777217
past_bytes all xs rest b e none few past =
    let test : nat_le 200000 (breaks_of xs) ≡ false = grind (arith, nat_tests) in
    let size : nat_le 16777216 (0 + length xs) ≡ true = grind (arith, nat_tests) in
    ap long_of e ∙ long_from-append 0 0 xs (b ∷ rest) none ∙ rw (test, size) refl

pub long_of_more : (xs : List ℕ) (b : ℕ) → long_of xs ≡ None → breaks_of xs < 200000 → length xs < 16777216 → long_of (xs ++ b ∷ []) ≡ None
long_of_more xs b none few small =
    let test : nat_le 200000 (breaks_of xs) ≡ false = grind (arith, nat_tests) in
    let size : nat_le 16777216 (0 + length xs) ≡ false = grind (arith, nat_tests) in
    long_from-append 0 0 xs (b ∷ []) none ∙ rw (test, size) refl

pub breaks_at_newline : (xs : List ℕ) (b : ℕ) → b ≡ 10 → breaks_of (xs ++ b ∷ []) ≡ breaks_of xs + 1
breaks_at_newline xs b e = breaks_of_more xs b ∙ rw e refl

pub breaks_at_other : (xs : List ℕ) (b : ℕ) → (b ≡ 10 → ⊥) → breaks_of (xs ++ b ∷ []) ≡ breaks_of xs
breaks_at_other xs b e =
    let test : (b == 10) ≡ false = grind (arith, nat_tests) in
    breaks_of_more xs b ∙ rw test refl

-- ---- a whole piece

count_by : (n : ℕ) (xs : List ℕ) (t : Bool) → ((k : ℕ) → breaks_from k xs ≡ k + breaks_of xs) → breaks_from (cond t (n + 1) n) xs ≡ n + breaks_from (cond t (0 + 1) 0) xs
count_by n xs true more = more (n + 1) ∙ omega (arith, more 1)
count_by n xs false more = more n

count_from : (n : ℕ) (xs : List ℕ) → breaks_from n xs ≡ n + breaks_of xs
count_from n [] = sym (add-zero n)
count_from n (x ∷ xs) = count_by n xs (x == 10) (λ k. count_from k xs)

few_by : (breaks : ℕ) (bs : List ℕ) (t : Bool) → breaks + breaks_from (cond t (0 + 1) 0) bs < 200000 → cond t (breaks + 1) breaks + breaks_of bs < 200000
few_by breaks bs true h = omega (arith, h, count_from 1 bs)
few_by breaks bs false h = h

short_from : (size breaks : ℕ) (piece : List ℕ) → breaks + breaks_of piece < 200000 → size + length piece ≤ 16777216 → long_from size breaks piece ≡ None
short_from size breaks [] few small = refl
short_from size breaks (b ∷ bs) few small =
    let next : cond (b == 10) (breaks + 1) breaks + breaks_of bs < 200000 = few_by breaks bs (b == 10) few in
    let lines : nat_le 200000 breaks ≡ false = grind (arith, nat_tests) in
    let bytes : nat_le 16777216 size ≡ false = grind (arith, nat_tests) in
    rw (lines, bytes) (short_from (size + 1) (cond (b == 10) (breaks + 1) breaks) bs next (omega (arith, small)))

-- what is taken of it passes no limit
pub short_piece : (xs piece : List ℕ) → long_of xs ≡ None → breaks_of xs + breaks_of piece < 200000 → length xs + length piece ≤ 16777216 → long_of (xs ++ piece) ≡ None
short_piece xs piece none few small = long_from-append 0 0 xs piece none ∙ short_from (0 + length xs) (breaks_of xs) piece few (omega (arith, small))

pub breaks_of_piece : (xs piece : List ℕ) → breaks_of (xs ++ piece) ≡ breaks_of xs + breaks_of piece
breaks_of_piece xs piece = breaks_from-append 0 xs piece ∙ count_from (breaks_of xs) piece
