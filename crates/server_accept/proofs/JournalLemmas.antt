-- The places of a journal.
use Rattle.std.proofs.Common.{◌≡◌, ◌≢◌, ℕ, zero, suc, ◌+◌, ◌<◌, ◌≤◌, List, [], ◌∷◌, ◌++◌, length, take, Option, Some, None, refl, sym, ap, ◌∙◌, subst, arith}
use Rattle.std.specs.Prelude.{slice_get, slice_set}
use mathlib.Core.Logic.{dite}
use native.Mathlib.Decide.{ℕ_discrete}
use Rattle.std.proofs.lemmas.Option.{none-some, same_Some}
use Rattle.ps_hub.specs.Hubs.{Hub}
use Rattle.ps_serve.specs.declared.closed.Closed.{Closed}
use Rattle.ps_serve.specs.Sessions.{IsSession}
use Rattle.server_accept.specs.Journals.{AreSessions, AreEnds, AreFilled}

-- ---- lists

get_within : {A : Type 0} (xs : List A) (i : ℕ) (x : A) → slice_get xs i ≡ Some x → i < length xs
get_within [] i x at = absurd (none-some x at)
get_within (y ∷ xs) zero x at = omega arith
get_within (y ∷ xs) (suc i) x at = let lt = get_within xs i x at in omega arith

get_take : {A : Type 0} (xs : List A) (n i : ℕ) → i < n → slice_get (take n xs) i ≡ slice_get xs i
get_take [] zero i lt = refl
get_take [] (suc n) i lt = refl
get_take (x ∷ xs) zero i lt = absurd (omega arith)
get_take (x ∷ xs) (suc n) zero lt = refl
get_take (x ∷ xs) (suc n) (suc i) lt = get_take xs n i (omega arith)

length_take : {A : Type 0} (xs : List A) (n : ℕ) → n ≤ length xs → length (take n xs) ≡ n
length_take [] zero le = refl
length_take [] (suc n) le = absurd (omega arith)
length_take (x ∷ xs) zero le = refl
length_take (x ∷ xs) (suc n) le = ap suc (length_take xs n (omega arith))

get_pushed : {A : Type 0} (xs : List (Option A)) (i : ℕ) (x : A) → slice_get (xs ++ None ∷ []) i ≡ Some (Some x) → slice_get xs i ≡ Some (Some x)
get_pushed [] zero x at = absurd (none-some x (same_Some None (Some x) at))
get_pushed [] (suc i) x at = absurd (none-some (Some x) at)
get_pushed (y ∷ xs) zero x at = at
get_pushed (y ∷ xs) (suc i) x at = get_pushed xs i x at

-- ---- places

pub none_yet : (hub : Hub) → AreEnds hub []
none_yet hub place closed at = absurd (none-some (Some closed) at)

-- an empty place more
pub one_more : (hub : Hub) (ends : List (Option Closed)) → AreEnds hub ends → AreEnds hub (ends ++ None ∷ [])
one_more hub ends are place closed at = are place closed (get_pushed ends place closed at)

set_here : {A : Type 0} (xs : List A) (i : ℕ) (x y : A) → slice_get (slice_set xs i x) i ≡ Some y → x ≡ y
set_here [] i x y at = absurd (none-some y at)
set_here (z ∷ xs) zero x y at = same_Some x y at
set_here (z ∷ xs) (suc i) x y at = set_here xs i x y at

set_there : {A : Type 0} (xs : List A) (i j : ℕ) (x : A) → j ≢ i → slice_get (slice_set xs i x) j ≡ slice_get xs j
set_there [] i j x apart = refl
set_there (z ∷ xs) zero zero x apart = absurd (apart refl)
set_there (z ∷ xs) zero (suc j) x apart = refl
set_there (z ∷ xs) (suc i) zero x apart = refl
set_there (z ∷ xs) (suc i) (suc j) x apart = set_there xs i j x (λ same. apart (ap suc same))

-- the end of a session comes to its place
pub one_put : (hub : Hub) (ends : List (Option Closed)) (n : ℕ) (one : Closed) → IsSession hub (n + 1) one → AreEnds hub ends → AreEnds hub (slice_set ends n (Some one))
one_put hub ends n one here are = λ place closed at.
    dite (ℕ_discrete place n)
    (λ same.
    let there : slice_get (slice_set ends n (Some one)) n ≡ Some (Some closed) = subst (λ (i : ℕ). slice_get (slice_set ends n (Some one)) i ≡ Some (Some closed)) same at in
    let is : one ≡ closed = same_Some one closed (set_here ends n (Some one) (Some closed) there) in
    subst (λ (z : ℕ × Closed). IsSession hub (z.0 + 1) z.1) (λ i. (sym same i, is i)) here)
    (λ apart. are place closed (sym (set_there ends n place (Some one) apart) ∙ at))

-- ---- the end

-- one place more is filled
pub filled_more : (n : ℕ) (ends : List (Option Closed)) (one : Closed) → slice_get ends n ≡ Some (Some one) → AreFilled n ends → AreFilled (n + 1) ends
filled_more n ends one here filled = λ place lt.
    dite (ℕ_discrete place n)
    (λ same. (one, subst (λ (i : ℕ). slice_get ends i ≡ Some (Some one)) (sym same) here))
    (λ apart. filled place (omega arith))

filled_length : (begun : ℕ) (ends : List (Option Closed)) → AreFilled begun ends → begun ≤ length ends
filled_length zero ends filled = omega arith
filled_length (suc n) ends filled = let f = filled n (omega arith) in let lt = get_within ends n (Some f.0) f.1 in omega arith

pub taken_count : (begun : ℕ) (ends : List (Option Closed)) → AreFilled begun ends → length (take begun ends) ≡ begun
taken_count begun ends filled = length_take ends begun (filled_length begun ends filled)

pub taken_sessions : (hub : Hub) (begun : ℕ) (ends : List (Option Closed)) → AreFilled begun ends → AreEnds hub ends → AreSessions hub (take begun ends)
taken_sessions hub begun ends filled are = λ place lt.
    let count : length (take begun ends) ≡ begun = taken_count begun ends filled in
    let within : place < begun = omega arith in
    let f = filled place within in
    (f.0, get_take ends begun place within ∙ f.1, are place f.0 f.1)
