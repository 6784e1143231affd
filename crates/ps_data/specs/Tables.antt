-- Rows in the order of their file, with their ids as the keys of a map.
use Rattle.std.specs.Prelude.{◌≡◌, ℕ, List, [], ◌∷◌, map, String, string_bytes}
use Rattle.std.specs.declared.alloc.Global.{Global}

-- the rows, without their keys
abbrev pub rows_of : {T : Type 0} → List (String Global × T) → List T
rows_of entries = map (λ entry. entry.1) entries

-- the key of each row is its id; which id a row has is said by `own`
abbrev pub AreKeyed : {T : Type 0} → (T → List ℕ) → List (String Global × T) → Type 0
AreKeyed own [] = Unit {0}
AreKeyed own (entry ∷ entries) = (string_bytes entry.0 ≡ own entry.1) × AreKeyed own entries
