-- All of these ids are users.
use Rattle.std.proofs.Common.{◌≡◌, ℕ, true, List, [], ◌∷◌, ◌||◌, Bool, refl, ap}
use Rattle.std.specs.List.{list_any}
use Rattle.std.specs.Str.{bytes_eq}
use Rattle.std.proofs.lemmas.Bool.{or_right}
use Rattle.std.proofs.lemmas.Slice.Eq.{bytes_eq-Decides}
use Rattle.ps_laws.specs.HallLow.{is_user}

abbrev pub AreUsers : List (List ℕ) → List (List ℕ) → Type 0
AreUsers ids [] = Unit {0}
AreUsers ids (id ∷ more) = (is_user ids id ≡ true) × AreUsers ids more

one_of : (id : List ℕ) (more : List (List ℕ)) → list_any (bytes_eq id) (id ∷ more) ≡ true
one_of id more = ap (λ (b : Bool). b || list_any (bytes_eq id) more) ((bytes_eq-Decides id id).1 refl)

pub users_of : (ids more : List (List ℕ)) → ((id : List ℕ) → list_any (bytes_eq id) more ≡ true → is_user ids id ≡ true) → AreUsers ids more
users_of ids [] all = tt
users_of ids (id ∷ more) all = (all id (one_of id more), users_of ids more (λ x h. all x (or_right (bytes_eq x id) _ h)))

-- each is one of them
pub users_self : (ids : List (List ℕ)) → AreUsers ids ids
users_self ids = users_of ids ids (λ id h. h)
