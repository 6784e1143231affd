-- The sum of all ratings, and how far they may be from 1000.
use Rattle.std.proofs.Common.{◌≡◌, ℕ, suc, ◌+◌, ◌*◌, ◌<◌, ◌≤◌, Bool, true, false, cond, List, [], ◌∷◌, ◌++◌, length, map, Option, Some, None, is_some, unwrap_or, T, ◌&&◌, refl, sym, ap, ◌∙◌, subst, arith, ℤ, pos, ◌+ℤ◌, ◌-ℤ◌}
use Rattle.std.specs.Ordering.{nat_cmp, is_eq}
use Rattle.std.specs.declared.cmp.Ordering.{Ordering}
use Rattle.std.specs.declared.cmp.Ordering.TheVariants.{Less, Equal, Greater}
use Rattle.std.specs.Str.{bytes_eq}
use Rattle.std.specs.List.{All}
use Rattle.std.specs.Cmp.Lexicographic.{slice_cmp, nat_list_cmp_total}
use Rattle.std.specs.FinMap.{insert, empty, entries, values, len, find, put, is_sorted, entries-insert, entries_sorted, get-entries, len-entries, len-empty, get-empty}
use Rattle.std.proofs.lemmas.Int.{ints}
use Rattle.std.specs.FinMap.Entries.{by_order, length-put}
use Rattle.std.proofs.lemmas.List.{length_push, nil_from_length}
use Rattle.std.proofs.lemmas.List.Elements.{All-head, All-tail}
use Rattle.ps_base.specs.Limits.{most_battles}
use Rattle.std.proofs.lemmas.Slice.Eq.{bytes_eq-Decides}
use Rattle.ps_ladder.specs.Gains.{gain_of}
use Rattle.ps_ladder.specs.Ratings.{Won, Ratings, Standing, rating, moved, settled, ratings_from, ratings_of, standing_of, standing_after, sum, IsBalanced, IsOfTwo, IsNear, AreNear, IsSound}
use Rattle.ps_ladder.proofs.MapLemmas.{rating-insert, turned}

abbrev Entry : Type 0
Entry = List ℕ × ℤ

abbrev order : List ℕ → List ℕ → Ordering
order = slice_cmp nat_cmp

-- what the entries have above 1000 each
abbrev over : List Entry → ℤ
over [] = pos 0
over (e ∷ es) = (e.1 -ℤ pos 1000) +ℤ over es

abbrev seen : List ℕ → List Entry → ℤ
seen k es = unwrap_or (find order k es) (pos 1000)

less_sum : (v e o u : ℤ) → u ≡ pos 1000 → ((v -ℤ pos 1000) +ℤ ((e -ℤ pos 1000) +ℤ o)) +ℤ u ≡ ((e -ℤ pos 1000) +ℤ o) +ℤ v
less_sum v e o u h = omega (arith, ints)

equal_sum : (v e o : ℤ) → ((v -ℤ pos 1000) +ℤ o) +ℤ e ≡ ((e -ℤ pos 1000) +ℤ o) +ℤ v
equal_sum v e o = omega (arith, ints)

greater_sum : (v e o p u : ℤ) → p +ℤ u ≡ o +ℤ v → ((e -ℤ pos 1000) +ℤ p) +ℤ u ≡ ((e -ℤ pos 1000) +ℤ o) +ℤ v
greater_sum v e o p u h = omega (arith, ints)

nil_sum : (v : ℤ) → ((v -ℤ pos 1000) +ℤ pos 0) +ℤ pos 1000 ≡ pos 0 +ℤ v
nil_sum v = omega (arith, ints)

tail_sorted : (a b : Bool) → T (a && b) → T b
tail_sorted true b h = h
tail_sorted false b h = absurd h

none_of : (o : Option ℤ) (n : ℕ) → suc (suc n) ≡ cond (is_some o) (suc n) (suc n + 1) → unwrap_or o (pos 1000) ≡ pos 1000
none_of None n h = refl
none_of (Some v) n h = absurd (omega (arith, h))

-- an entry that is put changes the sum by what it is above the one before
put_sum : (k : List ℕ) (v : ℤ) (es : List Entry) → T (is_sorted order es) → over (put order k v es) +ℤ seen k es ≡ over es +ℤ v
put_sum k v [] h = nil_sum v
put_sum k v (e ∷ es) h =
    let size = length-put order nat_list_cmp_total k v (e ∷ es) h in
    elim (order k e.0) as (λ r. length (by_order r ((k, v) ∷ e ∷ es) ((e.0, v) ∷ es) (e ∷ put order k v es)) ≡ cond (is_some (cond (is_eq r) (Some e.1) (find order k es))) (suc (length es)) (suc (length es) + 1)
    → over (by_order r ((k, v) ∷ e ∷ es) ((e.0, v) ∷ es) (e ∷ put order k v es)) +ℤ unwrap_or (cond (is_eq r) (Some e.1) (find order k es)) (pos 1000) ≡ over (e ∷ es) +ℤ v) [
      | Less ↦ λ s. less_sum v e.1 (over es) (seen k es) (none_of (find order k es) (length es) s)
      | Equal ↦ λ s. equal_sum v e.1 (over es)
      | Greater ↦ λ s. greater_sum v e.1 (over es) (over (put order k v es)) (seen k es) (put_sum k v es (tail_sorted _ _ h))
    ] size

abbrev surplus : Ratings → ℤ
surplus m = over (entries m)

put_surplus : (m : Ratings) (k : List ℕ) (v : ℤ) → surplus (insert m k v) +ℤ rating m k ≡ surplus m +ℤ v
put_surplus m k v = ap (λ es. over es +ℤ rating m k) (entries-insert nat_list_cmp_total m k v) ∙ ap (λ o. over (put order k v (entries m)) +ℤ unwrap_or o (pos 1000)) (get-entries m k) ∙ put_sum k v (entries m) (entries_sorted m)

moved_sum : (a b c p q g : ℤ) → b +ℤ p ≡ a +ℤ (p +ℤ g) → c +ℤ q ≡ b +ℤ (q -ℤ g) → c ≡ a
moved_sum a b c p q g h j = omega (arith, ints)

moved_surplus : (m : Ratings) (winner loser : List ℕ) (g : ℕ) → bytes_eq winner loser ≡ false → surplus (moved m winner loser g) ≡ surplus m
moved_surplus m winner loser g apart =
    let mid : Ratings = insert m winner (rating m winner +ℤ pos g) in
    let other : rating mid loser ≡ rating m loser = rating-insert m winner (rating m winner +ℤ pos g) loser ∙ ap (λ b. cond b (rating m winner +ℤ pos g) (rating m loser)) (turned winner loser ∙ apart) in
    moved_sum (surplus m) (surplus mid) (surplus (moved m winner loser g)) (rating m winner) (rating m loser) (pos g)
    (put_surplus m winner (rating m winner +ℤ pos g))
    (sym (ap (λ z. surplus (moved m winner loser g) +ℤ z) other) ∙ put_surplus mid loser (rating m loser -ℤ pos g))

more_sum : (e s o : ℤ) (n : ℕ) → s ≡ o +ℤ pos (1000 * n) → e +ℤ s ≡ ((e -ℤ pos 1000) +ℤ o) +ℤ pos (1000 * suc n)
more_sum e s o n h = omega (arith, ints)

sum_over : (es : List Entry) → sum (map (λ e. e.1) es) ≡ over es +ℤ pos (1000 * length es)
sum_over [] = refl
sum_over (e ∷ es) = more_sum e.1 (sum (map (λ x. x.1) es)) (over es) (length es) (sum_over es)

balance_is : (m : Ratings) → sum (values m) ≡ surplus m +ℤ pos (1000 * len m)
balance_is m = sum_over (entries m) ∙ ap (λ n. surplus m +ℤ pos (1000 * n)) (sym (len-entries m))

none_over : (s o : ℤ) (n : ℕ) → s ≡ o +ℤ pos n → s ≡ pos n → o ≡ pos 0
none_over s o n h j = omega (arith, ints)

same_over : (s o : ℤ) (n : ℕ) → s ≡ o +ℤ pos n → o ≡ pos 0 → s ≡ pos n
same_over s o n h j = omega (arith, ints)

pub balanced_moved : (m : Ratings) (winner loser : List ℕ) (g : ℕ) → bytes_eq winner loser ≡ false → IsBalanced m → IsBalanced (moved m winner loser g)
balanced_moved m winner loser g apart h =
    let new : Ratings = moved m winner loser g in
    same_over (sum (values new)) (surplus new) (1000 * len new) (balance_is new)
    (moved_surplus m winner loser g apart ∙ none_over (sum (values m)) (surplus m) (1000 * len m) (balance_is m) h)

pub balanced_empty : IsBalanced empty
balanced_empty =
    let none : entries {X = ℤ} {R = order} empty ≡ [] = nil_from_length _ (sym (len-entries {X = ℤ} {R = order} empty) ∙ len-empty order ℤ) in
    same_over (sum (values {X = ℤ} {R = order} empty)) (surplus empty) (1000 * len {X = ℤ} {R = order} empty) (balance_is empty) (ap over none)

balanced_from : (m : Ratings) (results : List Won) → All IsOfTwo results → IsBalanced m → IsBalanced (ratings_from m results)
balanced_from m [] two h = h
balanced_from m (r ∷ results) two h =
    balanced_from (settled m r.winner r.loser) results (All-tail IsOfTwo r results two) (balanced_moved m r.winner r.loser _ (All-head IsOfTwo r results two) h)

-- the law over all results
pub balanced_of : (results : List Won) → All IsOfTwo results → IsBalanced (ratings_of results)
balanced_of results two = balanced_from empty results two balanced_empty

-- ---- how far ratings may be from 1000

near_up : (n : ℕ) (z : ℤ) (g : ℕ) → IsNear n z → g ≤ 32 → IsNear (n + 1) (z +ℤ pos g)
near_up n z g near few = let low = near.low in let high = near.high in record { low = omega (arith, ints); high = omega (arith, ints) }

near_down : (n : ℕ) (z : ℤ) (g : ℕ) → IsNear n z → g ≤ 32 → IsNear (n + 1) (z -ℤ pos g)
near_down n z g near few = let low = near.low in let high = near.high in record { low = omega (arith, ints); high = omega (arith, ints) }

near_stay : (n : ℕ) (z : ℤ) → IsNear n z → IsNear (n + 1) z
near_stay n z near = let low = near.low in let high = near.high in record { low = omega (arith, ints); high = omega (arith, ints) }

pub near_moved : (n : ℕ) (m : Ratings) (winner loser : List ℕ) (g : ℕ) → g ≤ 32 → AreNear n m → AreNear (n + 1) (moved m winner loser g)
near_moved n m winner loser g few near = λ q.
    let mid : Ratings = insert m winner (rating m winner +ℤ pos g) in
    subst (IsNear (n + 1)) (sym (rating-insert mid loser (rating m loser -ℤ pos g) q ∙ ap (cond (bytes_eq q loser) (rating m loser -ℤ pos g)) (rating-insert m winner (rating m winner +ℤ pos g) q)))
    (by q (bytes_eq q loser) (bytes_eq q winner))
  where
    by : (q : List ℕ) (s t : Bool) → IsNear (n + 1) (cond s (rating m loser -ℤ pos g) (cond t (rating m winner +ℤ pos g) (rating m q)))
    by q true t = near_down n (rating m loser) g (near loser) few
    by q false true = near_up n (rating m winner) g (near winner) few
    by q false false = near_stay n (rating m q) (near q)

pub near_empty : AreNear 0 empty
near_empty = λ q. subst (λ o. IsNear 0 (unwrap_or o (pos 1000))) (sym (get-empty order q)) (record { low = omega (arith, ints); high = omega (arith, ints) })

-- ---- a ladder's standing

pub sound_new : IsSound (record { count = 0; ratings = empty })
sound_new = record { few = omega arith; near = near_empty; balanced = balanced_empty }

pub sound_after : (count : ℕ) (m new : Ratings) (winner loser : List ℕ) → IsSound (record { count = count; ratings = m }) → count < most_battles → bytes_eq winner loser ≡ false → gain_of (rating m winner) (rating m loser) ≤ 32
    → new ≡ settled m winner loser → IsSound (record { count = count + 1; ratings = new })
sound_after count m new winner loser sound few apart gain is =
    subst (λ (r : Ratings). IsSound (record { count = count + 1; ratings = r })) (sym is)
    (record { few = omega arith; near = near_moved count m winner loser _ gain sound.near; balanced = balanced_moved m winner loser _ apart sound.balanced })

-- one more result
from_more : (m : Ratings) (results : List Won) (r : Won) → ratings_from m (results ++ r ∷ []) ≡ settled (ratings_from m results) r.winner r.loser
from_more m [] r = refl
from_more m (x ∷ results) r = from_more (settled m x.winner x.loser) results r

pub standing_more : (s : Standing) (results : List Won) (r : Won) → s ≡ standing_of results → standing_after s r.winner r.loser ≡ standing_of (results ++ r ∷ [])
standing_more s results r is =
    ap (λ (x : Standing). standing_after x r.winner r.loser) is
    ∙ ap (λ n. record { count = n; ratings = settled (ratings_of results) r.winner r.loser }) (sym (length_push results r))
    ∙ ap (λ m. record { count = length (results ++ r ∷ []); ratings = m }) (sym (from_more empty results r))

-- ---- the two new ratings

pub winner_new : (m : Ratings) (winner loser : List ℕ) (g : ℕ) → bytes_eq winner loser ≡ false → rating (moved m winner loser g) winner ≡ rating m winner +ℤ pos g
winner_new m winner loser g apart =
    rating-insert (insert m winner (rating m winner +ℤ pos g)) loser (rating m loser -ℤ pos g) winner
    ∙ ap (λ b. cond b (rating m loser -ℤ pos g) (rating (insert m winner (rating m winner +ℤ pos g)) winner)) apart
    ∙ rating-insert m winner (rating m winner +ℤ pos g) winner ∙ ap (λ b. cond b (rating m winner +ℤ pos g) (rating m winner)) ((bytes_eq-Decides winner winner).1 refl)

pub loser_new : (m : Ratings) (winner loser : List ℕ) (g : ℕ) → rating (moved m winner loser g) loser ≡ rating m loser -ℤ pos g
loser_new m winner loser g =
    rating-insert (insert m winner (rating m winner +ℤ pos g)) loser (rating m loser -ℤ pos g) loser
    ∙ ap (λ b. cond b (rating m loser -ℤ pos g) (rating (insert m winner (rating m winner +ℤ pos g)) loser)) ((bytes_eq-Decides loser loser).1 refl)
