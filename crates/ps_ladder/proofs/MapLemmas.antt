-- Ratings by id: what a rating is after others were put into the map.
use Rattle.std.proofs.Common.{◌≡◌, ℕ, Bool, true, false, cond, ◌||◌, List, [], ◌∷◌, Option, Some, None, is_some, unwrap_or, refl, sym, ap, ◌∙◌, ℤ, pos}
use Rattle.std.specs.Ordering.{nat_cmp}
use Rattle.std.specs.Str.{bytes_eq}
use Rattle.std.specs.Cmp.Lexicographic.{slice_cmp, nat_list_cmp_total}
use Rattle.std.specs.FinMap.{get, insert, remove, contains_key, get-insert, get-remove, empty, get-empty, same_map, slice_cmp-IsAntisymmetric, nat_cmp-IsAntisymmetric}
use Rattle.std.proofs.lemmas.Map.Text.{is_eq-slice_cmp}
use Rattle.std.proofs.lemmas.Slice.Eq.{bytes_eq-Decides}
use Rattle.std.specs.List.{list_any}
use Rattle.ps_ladder.specs.Ratings.{Won, Ratings, rating, settled, ratings_from, ratings_of, has_played}

turned_by : (k q : List ℕ) (b : Bool) → bytes_eq k q ≡ b → bytes_eq q k ≡ b
turned_by k q true e = (bytes_eq-Decides q k).1 (sym ((bytes_eq-Decides k q).0 e))
turned_by k q false e = not_true (bytes_eq q k) (λ t. absurd (let f : true ≡ false = sym ((bytes_eq-Decides k q).1 (sym ((bytes_eq-Decides q k).0 t))) ∙ e in cc))
  where
    not_true : (b : Bool) → (b ≡ true → ⊥) → b ≡ false
    not_true true h = absurd (h refl)
    not_true false h = refl

pub turned : (k q : List ℕ) → bytes_eq q k ≡ bytes_eq k q
turned k q = turned_by k q (bytes_eq k q) refl

same : (m n : Ratings) → ((q : List ℕ) → get m q ≡ get n q) → m ≡ n
same m n h = same_map nat_list_cmp_total (slice_cmp-IsAntisymmetric nat_cmp-IsAntisymmetric) m n h

pub got : (m : Ratings) (k : List ℕ) (v : ℤ) (q : List ℕ) → get (insert m k v) q ≡ cond (bytes_eq q k) (Some v) (get m q)
got m k v q = get-insert nat_list_cmp_total m k v q ∙ ap (λ b. cond b (Some v) (get m q)) (is_eq-slice_cmp q k)

left : (m : Ratings) (k q : List ℕ) → get (remove m k) q ≡ cond (bytes_eq q k) None (get m q)
left m k q = get-remove nat_list_cmp_total m k q ∙ ap (λ b. cond b None (get m q)) (is_eq-slice_cmp q k)

-- the rating of a user is what was put, and the others' stay
pub rating-insert : (m : Ratings) (k : List ℕ) (v : ℤ) (q : List ℕ) → rating (insert m k v) q ≡ cond (bytes_eq q k) v (rating m q)
rating-insert m k v q = ap (λ o. unwrap_or o (pos 1000)) (got m k v q) ∙ out (bytes_eq q k)
  where
    out : (b : Bool) → unwrap_or (cond b (Some v) (get m q)) (pos 1000) ≡ cond b v (unwrap_or (get m q) (pos 1000))
    out true = refl
    out false = refl

-- ---- who has a rating

pub has_put : (m : Ratings) (k : List ℕ) (v : ℤ) → contains_key (insert m k v) k ≡ true
has_put m k v = ap is_some (got m k v k ∙ ap (λ b. cond b (Some v) (get m k)) ((bytes_eq-Decides k k).1 refl))

pub keeps_put : (m : Ratings) (k : List ℕ) (v : ℤ) (q : List ℕ) → contains_key m q ≡ true → contains_key (insert m k v) q ≡ true
keeps_put m k v q h = ap is_some (got m k v q) ∙ by (bytes_eq q k)
  where
    by : (b : Bool) → is_some (cond b (Some v) (get m q)) ≡ true
    by true = refl
    by false = h

-- ---- putting and taking back

there : (o : Option ℤ) → is_some o ≡ true → Some (unwrap_or o (pos 1000)) ≡ o
there None h = absurd cc
there (Some v) h = refl

-- to put the rating that a user has changes nothing
pub kept : (m : Ratings) (k : List ℕ) → contains_key m k ≡ true → insert m k (rating m k) ≡ m
kept m k h = same _ _ (λ q. got m k (rating m k) q ∙ by q (bytes_eq q k) refl)
  where
    by : (q : List ℕ) (b : Bool) → bytes_eq q k ≡ b → cond b (Some (rating m k)) (get m q) ≡ get m q
    by q true e = there (get m k) h ∙ ap (get m) (sym ((bytes_eq-Decides q k).0 e))
    by q false e = refl

-- who had no rating is taken out again
pub undone : (m : Ratings) (k : List ℕ) (v : ℤ) → contains_key m k ≡ false → remove (insert m k v) k ≡ m
undone m k v h = same _ _ (λ q. left (insert m k v) k q ∙ ap (cond (bytes_eq q k) None) (got m k v q) ∙ by q (bytes_eq q k) refl)
  where
    absent : (o : Option ℤ) → is_some o ≡ false → None ≡ o
    absent None e = refl
    absent (Some x) e = absurd cc

    by : (q : List ℕ) (b : Bool) → bytes_eq q k ≡ b → cond b None (cond b (Some v) (get m q)) ≡ get m q
    by q true e = absent (get m k) h ∙ ap (get m) (sym ((bytes_eq-Decides q k).0 e))
    by q false e = refl

-- what was put before for the same two users is forgotten
pub forgotten : (m : Ratings) (k l : List ℕ) (a b x y : ℤ) → insert (insert (insert (insert m k a) l b) k x) l y ≡ insert (insert m k x) l y
forgotten m k l a b x y = same _ _ (λ q.
    got _ l y q ∙ ap (cond (bytes_eq q l) (Some y)) (got _ k x q ∙ ap (cond (bytes_eq q k) (Some x)) (got _ l b q ∙ ap (cond (bytes_eq q l) (Some b)) (got m k a q)))
    ∙ by (bytes_eq q l) (bytes_eq q k) (get m q)
    ∙ sym (got _ l y q ∙ ap (cond (bytes_eq q l) (Some y)) (got m k x q)))
  where
    by : (s t : Bool) (o : Option ℤ) → cond s (Some y) (cond t (Some x) (cond s (Some b) (cond t (Some a) o))) ≡ cond s (Some y) (cond t (Some x) o)
    by true t o = refl
    by false true o = refl
    by false false o = refl

-- who has none is at 1000
pub unrated : (m : Ratings) (k : List ℕ) → contains_key m k ≡ false → rating m k ≡ pos 1000
unrated m k h = by (get m k) h
  where
    by : (o : Option ℤ) → is_some o ≡ false → unwrap_or o (pos 1000) ≡ pos 1000
    by None e = refl
    by (Some v) e = absurd cc

-- ---- who was rated

pub has_put_or : (m : Ratings) (k : List ℕ) (v : ℤ) (q : List ℕ) → contains_key (insert m k v) q ≡ (bytes_eq q k || contains_key m q)
has_put_or m k v q = ap is_some (got m k v q) ∙ by (bytes_eq q k)
  where
    by : (b : Bool) → is_some (cond b (Some v) (get m q)) ≡ (b || contains_key m q)
    by true = refl
    by false = refl

any_of : (l w m r : Bool) → ((l || (w || m)) || r) ≡ (m || ((w || l) || r))
any_of true true true r = refl
any_of true true false r = refl
any_of true false true r = refl
any_of true false false r = refl
any_of false true true r = refl
any_of false true false r = refl
any_of false false true r = refl
any_of false false false r = refl

rated_from : (m : Ratings) (results : List Won) (q : List ℕ) → contains_key (ratings_from m results) q ≡ (contains_key m q || list_any (has_played q) results)
rated_from m [] q = none (contains_key m q)
  where
    none : (b : Bool) → b ≡ (b || false)
    none true = refl
    none false = refl
rated_from m (r ∷ results) q =
    rated_from (settled m r.winner r.loser) results q
    ∙ ap (λ b. b || list_any (has_played q) results) (has_put_or _ r.loser _ q ∙ ap (λ b. bytes_eq q r.loser || b) (has_put_or m r.winner _ q))
    ∙ any_of (bytes_eq q r.loser) (bytes_eq q r.winner) (contains_key m q) (list_any (has_played q) results)

pub rated_of : (results : List Won) (user : List ℕ) → contains_key (ratings_of results) user ≡ list_any (has_played user) results
rated_of results user = rated_from empty results user ∙ ap (λ (o : Option ℤ). is_some o || list_any (has_played user) results) (get-empty (slice_cmp nat_cmp) user)
