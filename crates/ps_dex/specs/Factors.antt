-- The factors of types on types, in tenths.
use Rattle.std.specs.Prelude.{ℕ, ◌==◌, ◌||◌, ◌&&◌, Bool, not, List, [], ◌∷◌, Result, Ok}
use Rattle.std.specs.List.{list_any}
use Rattle.serde_json.specs.Data.{Data}
use Rattle.ps_data.specs.declared.fault.DataKind.TheVariants.{Range, Repeat}
use Rattle.ps_data.specs.declared.fault.Fault.{Fault}
use Rattle.ps_data.specs.Paths.{Index}
use Rattle.ps_data.specs.Reading.{◌>>=◌, refuse, under, ensure}
use Rattle.ps_data.specs.Forms.{number_in, array_in}
use Rattle.ps_data.specs.Lists.{each}
use Rattle.ps_dex.specs.declared.item.TypeItem.{TypeItem}
use Rattle.ps_dex.specs.declared.item.FactorItem.{FactorItem}
use Rattle.ps_dex.specs.Types.{type_in}

-- 0, 5, 10 or 20
unfoldable pub tenths_in : Data → Result ℕ Fault
tenths_in value = do
  tenths ← number_in 0 20 value
  _ ← ensure Range (tenths == 0 || tenths == 5 || tenths == 10 || tenths == 20)
  Ok tenths

-- an item of this pair
unfoldable pub has_pair : ℕ → ℕ → List FactorItem → Bool
has_pair attack defend items = list_any (λ factor. factor.attack == attack && factor.defend == defend) items

-- the attacking type, the defending type and the factor
unfoldable pub parts_in : List TypeItem → Data → Data → Data → Result FactorItem Fault
parts_in types attacking defending factor = do
  attack ← under (Index 0) (type_in types attacking)
  defend ← under (Index 1) (type_in types defending)
  tenths ← under (Index 2) (tenths_in factor)
  Ok (record { attack = attack; defend = defend; tenths = tenths })

abbrev pub three_parts_in : List TypeItem → List Data → Result FactorItem Fault
three_parts_in types [] = refuse Range
three_parts_in types (attacking ∷ []) = refuse Range
three_parts_in types (attacking ∷ defending ∷ []) = refuse Range
three_parts_in types (attacking ∷ defending ∷ factor ∷ []) = parts_in types attacking defending factor
three_parts_in types (attacking ∷ defending ∷ factor ∷ extra ∷ more) = refuse Range

-- a pair that no item before has
unfoldable pub factor_item_in : List TypeItem → List FactorItem → Data → Result FactorItem Fault
factor_item_in types before value = do
  parts ← array_in value
  item ← three_parts_in types parts
  _ ← ensure Repeat (not (has_pair item.attack item.defend before))
  Ok item

-- as many as there are
unfoldable pub factors_in : List TypeItem → Data → Result (List FactorItem) Fault
factors_in types value = do
  items ← array_in value
  each (λ before after. factor_item_in types before) [] items
