-- Items in order, each with a number above those before it.
use Rattle.std.specs.Prelude.{ℕ, ◌<◌, Bool, not, List, [], ◌∷◌, map, Option}
use Rattle.std.specs.List.{filter, filter_map}
use Rattle.std.specs.Map.{lookup}
use Rattle.std.specs.BTreeMap.{is_at}
use Rattle.std.specs.Ordering.{nat_cmp}

-- whether two numbers are the same
abbrev pub is_number : ℕ → ℕ → Bool
is_number number other = is_at (nat_cmp number) other

-- the item with a number
abbrev pub item_at : {T : Type 0} → ℕ → List (ℕ × T) → Option T
item_at number es = lookup (is_number number) es

-- the items that are left when the one with a number is taken out
abbrev pub without : {T : Type 0} → ℕ → List (ℕ × T) → List (ℕ × T)
without number es = filter (λ entry. not (is_number number entry.0)) es

-- the numbers but for one
abbrev pub but : ℕ → List ℕ → List ℕ
but number ns = filter (λ other. not (is_number number other)) ns

-- the items alone
abbrev pub items_of : {T : Type 0} → List (ℕ × T) → List T
items_of es = map (λ entry. entry.1) es

-- the items with these numbers, of those that are there
abbrev pub items_at : {T : Type 0} → List ℕ → List (ℕ × T) → List T
items_at ns es = filter_map (λ number. item_at number es) ns

-- all numbers are below this one
abbrev pub AreBelow : {T : Type 0} → ℕ → List (ℕ × T) → Type 0
AreBelow number [] = Unit {0}
AreBelow number (entry ∷ entries) = (entry.0 < number) × AreBelow number entries

abbrev pub AreLess : ℕ → List ℕ → Type 0
AreLess number [] = Unit {0}
AreLess number (other ∷ others) = (other < number) × AreLess number others
