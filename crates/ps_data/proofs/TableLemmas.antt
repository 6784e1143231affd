-- What the map of a table tells of its rows.
use Rattle.std.proofs.Common.{◌≡◌, ℕ, ◌+◌, Bool, true, false, cond, List, [], ◌∷◌, ◌++◌, map, Option, Some, None, String, string_bytes, refl, sym, ap, ◌∙◌, is_some}
use Rattle.std.specs.Prelude.{position}
use Rattle.std.specs.List.{position_from}
use Rattle.std.specs.Str.{bytes_eq}
use Rattle.std.specs.String.{string_eq}
use Rattle.std.specs.Map.{keys_of}
use Rattle.std.specs.declared.alloc.Global.{Global}
use Rattle.std.proofs.lemmas.Bool.{not-true}
use Rattle.std.proofs.lemmas.Iterator.Adapters.{position_from-zero}
use Rattle.std.specs.Cmp.Lexicographic.{nat_list_eq_equiv}
use Rattle.indexmap.specs.IndexMap.{insert_entry}
use Rattle.ps_data.specs.OwnIds.{has_id, IsNew}
use Rattle.ps_data.specs.Tables.{rows_of, AreKeyed}

-- ---- looking an id up among the keys is looking it up among the rows

same_test : (id key own : List ℕ) → key ≡ own → bytes_eq id key ≡ bytes_eq own id
same_test id key own is = ap (bytes_eq id) is ∙ nat_list_eq_equiv.symm id own

from_rows : {T : Type 0} (own : T → List ℕ) (id : List ℕ) (n : ℕ) (es : List (String Global × T)) → AreKeyed own es
    → position_from (λ k. bytes_eq id (string_bytes k)) n (keys_of es) ≡ position_from (λ t. bytes_eq (own t) id) n (rows_of es)
from_rows own id n [] keyed = refl
from_rows own id n (e ∷ es) keyed =
    ap (λ (b : Bool). cond b (Some n) (position_from (λ k. bytes_eq id (string_bytes k)) (n + 1) (keys_of es))) (same_test id (string_bytes e.0) (own e.1) keyed.0)
    ∙ ap (cond (bytes_eq (own e.1) id) (Some n)) (from_rows own id (n + 1) es keyed.1)

pub index_of_row : {T : Type 0} (own : T → List ℕ) (id : List ℕ) (es : List (String Global × T)) → AreKeyed own es
    → position (λ k. bytes_eq id (string_bytes k)) (keys_of es) ≡ position (λ t. bytes_eq (own t) id) (rows_of es)
index_of_row own id es keyed =
    position_from-zero (λ k. bytes_eq id (string_bytes k)) (keys_of es) ∙ from_rows own id 0 es keyed ∙ sym (position_from-zero (λ t. bytes_eq (own t) id) (rows_of es))

-- ---- a row with a new id comes last

absent : (b : Bool) (n : ℕ) (o : Option ℕ) → is_some (cond b (Some n) o) ≡ false → (b ≡ false) × (is_some o ≡ false)
absent true n o e = absurd cc
absent false n o e = (refl, e)

last_from : {T : Type 0} (own : T → List ℕ) (k : String Global) (v : T) (n : ℕ) (es : List (String Global × T)) → string_bytes k ≡ own v → AreKeyed own es
    → is_some (position_from (λ t. bytes_eq (own t) (own v)) n (rows_of es)) ≡ false → insert_entry string_eq es k v ≡ es ++ (k, v) ∷ []
last_from own k v n [] is keyed e = refl
last_from {T} own k v n (x ∷ es) is keyed e =
    let a = absent (bytes_eq (own x.1) (own v)) n (position_from (λ t. bytes_eq (own t) (own v)) (n + 1) (rows_of es)) e in
    let differs : string_eq k x.0 ≡ false = ap (λ (id : List ℕ). bytes_eq id (string_bytes x.0)) is ∙ same_test (own v) (string_bytes x.0) (own x.1) keyed.0 ∙ a.0 in
    rw differs (ap (λ (rest : List (String Global × T)). x ∷ rest) (last_from own k v (n + 1) es is keyed.1 a.1))

keyed_last : {T : Type 0} (own : T → List ℕ) (k : String Global) (v : T) (es : List (String Global × T)) → string_bytes k ≡ own v → AreKeyed own es → AreKeyed own (es ++ (k, v) ∷ [])
keyed_last own k v [] is keyed = (is, tt)
keyed_last own k v (e ∷ es) is keyed = (keyed.0, keyed_last own k v es is keyed.1)

rows_last : {T : Type 0} (k : String Global) (v : T) (es : List (String Global × T)) → rows_of (es ++ (k, v) ∷ []) ≡ rows_of es ++ v ∷ []
rows_last k v [] = refl
rows_last {T} k v (e ∷ es) = ap (λ (rest : List T). e.1 ∷ rest) (rows_last k v es)

-- what a table has after a row with a new id
pub inserted : {T : Type 0} (own : T → List ℕ) (k : String Global) (v : T) (es : List (String Global × T)) → string_bytes k ≡ own v → AreKeyed own es → IsNew own (own v) (rows_of es)
    → AreKeyed own (insert_entry string_eq es k v) × (rows_of (insert_entry string_eq es k v) ≡ rows_of es ++ v ∷ [])
unfolding has_id
inserted own k v es is keyed new =
    let last = last_from own k v 0 es is keyed (ap is_some (sym (position_from-zero (λ t. bytes_eq (own t) (own v)) (rows_of es))) ∙ not-true (has_id own (own v) (rows_of es)) new) in
    rw last (keyed_last own k v es is keyed, rows_last k v es)
