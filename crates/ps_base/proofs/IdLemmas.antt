-- What an id keeps.
use Rattle.std.proofs.Common.{◌≡◌, ◌≤◌, ℕ, Bool, true, false, not, List, [], ◌∷◌, length, refl, arith}
use Rattle.std.proofs.lemmas.List.{length-map}
use Rattle.std.proofs.lemmas.List.Filters.{length-filter_both}
use Rattle.std.specs.Prelude.{map, filter}
use Rattle.std.specs.List.{list_all}
use Rattle.ps_base.specs.Ids.{id_of, is_id, is_id_byte, lower}

kept : (x : ℕ) (xs : List ℕ) (b : Bool) → is_id_byte x ≡ b → list_all is_id_byte (filter is_id_byte xs) ≡ true → list_all is_id_byte (filter is_id_byte (x ∷ xs)) ≡ true
kept x xs true e more = rw (e, e) more
kept x xs false e more = rw e more

list_all-filter : (xs : List ℕ) → list_all is_id_byte (filter is_id_byte xs) ≡ true
list_all-filter [] = refl
list_all-filter (x ∷ xs) = kept x xs (is_id_byte x) refl (list_all-filter xs)

pub is_id-id_of : (text : List ℕ) → is_id (id_of text) ≡ true
is_id-id_of text = list_all-filter (map lower text)

-- an id is no longer than its text
pub length-id_of : (text : List ℕ) → length (id_of text) ≤ length text
length-id_of text = omega (arith, length-filter_both is_id_byte (λ b. not (is_id_byte b)) (λ b. refl) (map lower text), length-map text lower)
