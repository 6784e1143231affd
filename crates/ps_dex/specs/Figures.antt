-- The figures of a dex, as battles use them.
use Rattle.std.specs.Prelude.{ℕ, zero, suc, List, [], ◌∷◌, ◌++◌, map}
use Rattle.ps_mon.specs.Facts.{Figures}
use Rattle.ps_dex.specs.declared.item.FactorItem.{FactorItem}
use Rattle.ps_dex.specs.declared.item.Tables.{Tables}
use Rattle.ps_dex.specs.Lookups.{factor_of, built_in}

-- the first values of a function
abbrev pub listed : {A : Type 0} → (ℕ → A) → ℕ → List A
listed value_of zero = []
listed value_of (suc count) = listed value_of count ++ value_of count ∷ []

-- the factors of a type on each of 32 types
unfoldable pub factors_of_attack : List FactorItem → ℕ → List ℕ
factors_of_attack items attack = listed (factor_of items attack) 32

-- the factors of each of 32 types
unfoldable pub factor_table : List FactorItem → List (List ℕ)
factor_table items = listed (factors_of_attack items) 32

-- the numbers of the moves, all factors, and Struggle
unfoldable pub figures_of : Tables → Figures
figures_of dex = record { moves = map (λ move. move.numbers) dex.moves; factors = factor_table dex.factors; struggle = built_in dex.types }
