-- Values by connection.
use Rattle.std.specs.Prelude.{ℕ, List}
use Rattle.std.specs.Ordering.{nat_cmp}
use Rattle.std.specs.FinMap.{FinMap, from_entries, code}
use Rattle.std.specs.Coded.{Coded, coded_ℕ}

-- a finite map from the numbers of connections
abbrev pub ByConn : Type 0 → Type 0
ByConn X = FinMap nat_cmp X

-- its code, by which a proof tells two of them apart
abbrev pub by_conn_code : {X : Type 0} → Coded X → Coded (ByConn X)
by_conn_code coded = code coded_ℕ coded

-- the map of a tree's entries
abbrev pub by_conn : {X : Type 0} → List (ℕ × X) → ByConn X
by_conn es = from_entries es
