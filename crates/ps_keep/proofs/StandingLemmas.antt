-- The places of all results, sorted and each once, are the standings.
use Rattle.std.proofs.Common.{◌≡◌, ℕ, suc, ◌+◌, ◌≤◌, true, List, [], ◌∷◌, ◌++◌, length, Option, Some, None, refl, sym, ap, ◌∙◌, arith, inl, inr}
use Rattle.std.specs.List.{All, Contains, list_any, cons_option, dedup}
use Rattle.std.specs.List.Sorted.{IsPermutation, IsSorted}
use Rattle.std.specs.Ordering.{is_eq, ordering_then, eq_by_cmp, int_cmp, nat_cmp}
use Rattle.std.specs.declared.cmp.Ordering.{Ordering}
use Rattle.std.specs.declared.cmp.Ordering.TheVariants.{Less, Equal, Greater}
use Rattle.std.specs.Cmp.Lexicographic.{slice_cmp, texts_ties}
use Rattle.std.specs.Str.{bytes_eq}
use Rattle.std.proofs.lemmas.Bool.{or_left, or_right, or_cases}
use Rattle.std.proofs.lemmas.Cmp.{eq_by_cmp_equiv}
use Rattle.std.proofs.lemmas.Slice.Eq.{bytes_eq-Decides}
use Rattle.std.proofs.lemmas.List.Elements.{All-nil, All-cons, All-head, All-tail, All-weaker}
use Rattle.std.proofs.lemmas.List.Filters.{All-dedup}
use Rattle.std.proofs.lemmas.List.Kept.{Any-dedup, IsStrictlySortedBy-dedup}
use Rattle.std.proofs.lemmas.List.Sorted.{All-permutation, Contains-permutation}
use Rattle.ps_ladder.specs.Ratings.{Won, Ratings, Standing, rating, ratings_of, ratings_from, rating_of, standing_of, has_played}
use Rattle.ps_keep.specs.declared.note.Note.{Note}
use Rattle.ps_keep.specs.declared.standings.Place.{Place}
use Rattle.ps_keep.specs.Results.{result_in, results_in}
use Rattle.ps_keep.specs.Order.{place_cmp_total}
use Rattle.ps_keep.specs.Standings.{place_cmp, standing_with, standing_from, places_with, places_in, AreStandings}

-- ---- what is true of each place

abbrev Fits : Ratings → (List ℕ → Type 0) → Place → Type 0
Fits ratings Q p = (p.rating ≡ rating ratings p.user) × Q p.user

abbrev OfBoth : (List ℕ → Type 0) → Won → Type 0
OfBoth Q r = Q r.winner × Q r.loser

fit_more : (ratings : Ratings) (Q : List ℕ → Type 0) (o : Option Won) (rest : List Won) (places : List Place) → (All (OfBoth Q) rest → All (Fits ratings Q) places) → All (OfBoth Q) (cons_option o rest) → All (Fits ratings Q) (places_with ratings o ++ places)
fit_more ratings Q None rest places more h = more h
fit_more ratings Q (Some r) rest places more h =
    let F = Fits ratings Q in
    let both : OfBoth Q r = All-head (OfBoth Q) r rest h in
    let one : Place = record { user = r.winner; rating = rating ratings r.winner } in
    let two : Place = record { user = r.loser; rating = rating ratings r.loser } in
    All-cons F one (two ∷ places) (refl, both.0) (All-cons F two places (refl, both.1) (more (All-tail (OfBoth Q) r rest h)))

all_fit : (ratings : Ratings) (Q : List ℕ → Type 0) (format : List ℕ) (notes : List Note) → All (OfBoth Q) (results_in format notes) → All (Fits ratings Q) (places_in ratings format notes)
all_fit ratings Q format [] h = All-nil (Fits ratings Q)
all_fit ratings Q format (note ∷ notes) h = fit_more ratings Q (result_in format note) (results_in format notes) (places_in ratings format notes) (all_fit ratings Q format notes) h

-- ---- who stands there played, and the other way round

abbrev Played : List Won → List ℕ → Type 0
Played results user = list_any (has_played user) results ≡ true

itself : (text : List ℕ) → bytes_eq text text ≡ true
itself text = (bytes_eq-Decides text text).1 refl

have_played : (results : List Won) → All (OfBoth (Played results)) results
have_played [] = All-nil (OfBoth (Played []))
have_played (r ∷ rs) =
    All-cons (OfBoth (Played (r ∷ rs))) r rs (
      or_left (has_played r.winner r) (list_any (has_played r.winner) rs) (or_left (bytes_eq r.winner r.winner) (bytes_eq r.winner r.loser) (itself r.winner)),
      or_left (has_played r.loser r) (list_any (has_played r.loser) rs) (or_right (bytes_eq r.loser r.winner) (bytes_eq r.loser r.loser) (itself r.loser)),
    )
    (All-weaker (OfBoth (Played rs)) (OfBoth (Played (r ∷ rs)))
    (λ x h. (or_right (has_played x.winner r) (list_any (has_played x.winner) rs) h.0, or_right (has_played x.loser r) (list_any (has_played x.loser) rs) h.1)) rs (have_played rs))

abbrev Stands : List ℕ → List Place → Type 0
Stands user places = (p : Place) × Contains places p × (p.user ≡ user)

shift : (user : List ℕ) (x : Place) (places : List Place) → Stands user places → Stands user (x ∷ places)
shift user x places s = let c : Contains places s.0 = s.1 in (s.0, (suc c.0, omega (arith, c.1), c.2), s.2)

found_more : (ratings : Ratings) (user : List ℕ) (o : Option Won) (rest : List Won) (places : List Place) → (Played rest user → Stands user places) → Played (cons_option o rest) user → Stands user (places_with ratings o ++ places)
found_more ratings user None rest places more h = more h
found_more ratings user (Some r) rest places more h =
    let one : Place = record { user = r.winner; rating = rating ratings r.winner } in
    let two : Place = record { user = r.loser; rating = rating ratings r.loser } in
    elim (or_cases (has_played user r) (list_any (has_played user) rest) h) as (λ _. Stands user (one ∷ two ∷ places)) [
      | inl own ↦ elim (or_cases (bytes_eq user r.winner) (bytes_eq user r.loser) own) as (λ _. Stands user (one ∷ two ∷ places)) [
        | inl won ↦ (one, (0, omega arith, refl), sym ((bytes_eq-Decides user r.winner).0 won))
        | inr lost ↦ (two, (1, omega arith, refl), sym ((bytes_eq-Decides user r.loser).0 lost))
      ]
      | inr later ↦ shift user one (two ∷ places) (shift user two places (more later))
    ]

found : (ratings : Ratings) (user format : List ℕ) (notes : List Note) → Played (results_in format notes) user → Stands user (places_in ratings format notes)
found ratings user format [] h = absurd cc
found ratings user format (note ∷ notes) h = found_more ratings user (result_in format note) (results_in format notes) (places_in ratings format notes) (found ratings user format notes) h

-- ---- places that tie are of one user

then_ties : (a b : Ordering) → is_eq (ordering_then a b) ≡ true → is_eq b ≡ true
then_ties Less b e = absurd cc
then_ties Equal b e = e
then_ties Greater b e = absurd cc

same_user : (p q : Place) → eq_by_cmp place_cmp p q ≡ true → p.user ≡ q.user
same_user p q e = (bytes_eq-Decides p.user q.user).0 (texts_ties p.user q.user ∙ then_ties (int_cmp q.rating p.rating) (slice_cmp nat_cmp p.user q.user) e)

-- ---- all of it

pub are_standings : (format : List ℕ) (notes : List Note) (ratings : Ratings) (made sorted places : List Place) → ratings ≡ ratings_of (results_in format notes) → made ≡ places_in ratings format notes → IsPermutation made sorted → IsSorted place_cmp sorted → places ≡ dedup (eq_by_cmp place_cmp) sorted
    → AreStandings (results_in format notes) places
are_standings format notes ratings made sorted places are makes moved up once =
    let results : List Won = results_in format notes in
    let F = Fits ratings (Played results) in
    let fit : All F made = rw makes (all_fit ratings (Played results) format notes (have_played results)) in
    let kept : All F places = rw once (All-dedup (eq_by_cmp place_cmp) F sorted (All-permutation F made sorted moved fit)) in
    record {
      rated = All-weaker F (λ p. p.rating ≡ rating_of p.user results) (λ p h. h.0 ∙ ap (λ (m : Ratings). rating m p.user) are) places kept;
      only = All-weaker F (λ p. Played results p.user) (λ p h. h.1) places kept;
      all = λ user played.
          let s : Stands user made = rw makes (found ratings user format notes played) in
          let a = Any-dedup (eq_by_cmp_equiv place_cmp_total) sorted s.0 (Contains-permutation made sorted s.0 moved s.1) in
          rw once (a.0, a.1, a.2, a.3, sym (same_user s.0 a.1 a.4) ∙ s.2);
      order = rw once (IsStrictlySortedBy-dedup place_cmp_total (λ x y. refl) sorted up);
    }

-- ---- the ladder

settled_more : (o : Option Won) (s : Standing) (rest : List Won) (m : Ratings) (n : ℕ) → standing_with s o ≡ record { count = n; ratings = m } → ratings_from s.ratings (cons_option o rest) ≡ ratings_from m rest
settled_more None s rest m n is = ap (λ (x : Standing). ratings_from x.ratings rest) is
settled_more (Some r) s rest m n is = ap (λ (x : Standing). ratings_from x.ratings rest) is

counted_more : (o : Option Won) (s : Standing) (rest : List Won) → (standing_with s o).count + length rest ≡ s.count + length (cons_option o rest)
counted_more None s rest = refl
counted_more (Some r) s rest = omega arith

standing_past : (format : List ℕ) (notes : List Note) (s : Standing) → standing_from s format notes ≡ record { count = s.count + length (results_in format notes); ratings = ratings_from s.ratings (results_in format notes) }
standing_past format [] s = ap (λ n. record { count = n; ratings = s.ratings }) (omega arith)
standing_past format (note ∷ notes) s =
    let o = result_in format note in
    let rest = results_in format notes in
    let next : Standing = standing_with s o in
    standing_past format notes next
    ∙ ap (λ n. record { count = n; ratings = ratings_from next.ratings rest }) (counted_more o s rest)
    ∙ ap (λ m. record { count = s.count + length (cons_option o rest); ratings = m }) (sym (settled_more o s rest next.ratings next.count refl))

-- the results of the notes, settled one by one, give the ladder's standing
pub standing_all : (format : List ℕ) (notes : List Note) → standing_from (standing_of []) format notes ≡ standing_of (results_in format notes)
standing_all format notes = standing_past format notes (standing_of []) ∙ ap (λ n. record { count = n; ratings = ratings_of (results_in format notes) }) (omega arith)

-- a note settles one battle at the most
pub count_with : (s : Standing) (o : Option Won) → (standing_with s o).count ≤ s.count + 1
count_with s None = omega arith
count_with s (Some r) = omega arith
