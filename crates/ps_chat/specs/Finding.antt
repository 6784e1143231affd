-- The indices of members in a list: for the code's indices alone.
use Rattle.std.specs.Prelude.{◌≡◌, ℕ, suc, ◌-◌, nat_lt, ◌==◌, Bool, List, [], ◌∷◌, Option, Some, None, String, if◌then◌else◌}
use Rattle.std.specs.Option.{option_map}
use Rattle.std.specs.Ordering.{nat_cmp}
use Rattle.std.specs.BTreeMap.{BTreeMap, get, get_by_text}
use Rattle.ps_chat.specs.Lookups.{has_id}
use Rattle.ps_chat.specs.declared.present.Present.{Present}

-- the index, counted from 0, of the first item that passes a test
abbrev pub index_of : {A : Type 0} → (A → Bool) → List A → Option ℕ
index_of test [] = None
index_of test (item ∷ items) = if test item then Some 0 else option_map suc (index_of test items)

-- the tree has the index of each connection's first member
abbrev pub IsIndex : List Present → BTreeMap ℕ ℕ → Type 0
IsIndex ps indices = (conn : ℕ) → get nat_cmp indices conn ≡ index_of (λ present. present.conn == conn) ps

-- an index after the item at another one was taken out
abbrev pub shifted : ℕ → ℕ → ℕ
shifted gone index = if nat_lt gone index then index - 1 else index

-- the tree has the index of each id's first member
abbrev pub IsIdIndex : {Y : Type 0} → List Present → BTreeMap (String Y) ℕ → Type 0
IsIdIndex ps ids = (id : List ℕ) → get_by_text ids id ≡ index_of (has_id id) ps
