-- Values by id.
use Rattle.std.specs.Prelude.{List, map as each}
use Rattle.std.specs.Ordering.{nat_cmp}
use Rattle.std.specs.Cmp.Lexicographic.{slice_cmp}
use Rattle.std.specs.FinMap.{FinMap, from_entries, code}
use Rattle.std.specs.Coded.{Coded, coded_list, coded_ℕ}
use Rattle.std.specs.Prelude.{String, string_bytes}

-- a finite map from texts
abbrev pub ById : Type 0 → Type 0
ById X = FinMap (slice_cmp nat_cmp) X

-- its code, by which a proof tells two of them apart
abbrev pub by_id_code : {X : Type 0} → Coded X → Coded (ById X)
by_id_code coded = code (coded_list coded_ℕ) coded

-- the map of a tree's entries
abbrev pub by_id : {Y X : Type 0} → List (String Y × X) → ById X
by_id es = from_entries (each (λ entry. (string_bytes entry.0, entry.1)) es)
