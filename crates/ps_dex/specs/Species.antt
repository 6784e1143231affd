-- The species of a dex.
use Rattle.std.specs.Prelude.{ℕ, ◌==◌, Bool, not, List, [], ◌∷◌, codes, position, Option, bytes_eq, Result, Ok}
use Rattle.std.specs.List.{list_any}
use Rattle.serde_json.specs.Data.{Data}
use Rattle.ps_base.specs.Ids.{id_of}
use Rattle.ps_data.specs.declared.fault.DataKind.TheVariants.{Range, Unknown, Repeat}
use Rattle.ps_data.specs.declared.fault.Fault.{Fault}
use Rattle.ps_data.specs.Paths.{Index}
use Rattle.ps_data.specs.Reading.{◌>>=◌, refuse, under, ensure, some_or, required}
use Rattle.ps_data.specs.Forms.{object_in, text_in, number_in, array_in}
use Rattle.ps_data.specs.Lists.{each}
use Rattle.ps_data.specs.OwnIds.{has_id}
use Rattle.ps_dex.specs.declared.item.TypeItem.{TypeItem}
use Rattle.ps_dex.specs.declared.item.MoveItem.{MoveItem}
use Rattle.ps_dex.specs.declared.item.SpeciesItem.{SpeciesItem}
use Rattle.ps_dex.specs.Names.{own_name_in}
use Rattle.ps_dex.specs.Types.{type_in}
use Rattle.ps_dex.specs.Moves.{move_index}

-- the number of the species with an id: its index
unfoldable pub species_index : List ℕ → List SpeciesItem → Option ℕ
species_index id species = position (λ item. bytes_eq item.id id) species

unfoldable pub has_species : List ℕ → List SpeciesItem → Bool
has_species id species = has_id (λ item. item.id) id species

-- ---- types: one, which is kept twice, or two that differ

unfoldable pub other_type_in : List TypeItem → ℕ → Data → Result ℕ Fault
other_type_in types first value = do
  second ← type_in types value
  _ ← ensure Repeat (not (second == first))
  Ok second

unfoldable pub one_type_in : List TypeItem → Data → Result (List ℕ) Fault
one_type_in types value = do
  only ← under (Index 0) (type_in types value)
  Ok (only ∷ only ∷ [])

unfoldable pub two_types_in : List TypeItem → Data → Data → Result (List ℕ) Fault
two_types_in types one two = do
  first ← under (Index 0) (type_in types one)
  second ← under (Index 1) (other_type_in types first two)
  Ok (first ∷ second ∷ [])

abbrev pub types_of : List TypeItem → List Data → Result (List ℕ) Fault
types_of types [] = refuse Range
types_of types (one ∷ []) = one_type_in types one
types_of types (one ∷ two ∷ []) = two_types_in types one two
types_of types (one ∷ two ∷ three ∷ more) = refuse Range

unfoldable pub types_in : List TypeItem → Data → Result (List ℕ) Fault
types_in types value = do
  items ← array_in value
  types_of types items

-- ---- stats: HP, Attack, Defense, Special and Speed

abbrev pub base_stat_in : ℕ → Data → Result ℕ Fault
base_stat_in index value = under (Index index) (number_in 1 255 value)

unfoldable pub five_stats_in : Data → Data → Data → Data → Data → Result (List ℕ) Fault
five_stats_in one two three four five = do
  hp ← base_stat_in 0 one
  attack ← base_stat_in 1 two
  defense ← base_stat_in 2 three
  special ← base_stat_in 3 four
  speed ← base_stat_in 4 five
  Ok (hp ∷ attack ∷ defense ∷ special ∷ speed ∷ [])

abbrev pub stats_of : List Data → Result (List ℕ) Fault
stats_of [] = refuse Range
stats_of (one ∷ []) = refuse Range
stats_of (one ∷ two ∷ []) = refuse Range
stats_of (one ∷ two ∷ three ∷ []) = refuse Range
stats_of (one ∷ two ∷ three ∷ four ∷ []) = refuse Range
stats_of (one ∷ two ∷ three ∷ four ∷ five ∷ []) = five_stats_in one two three four five
stats_of (one ∷ two ∷ three ∷ four ∷ five ∷ six ∷ more) = refuse Range

unfoldable pub stats_in : Data → Result (List ℕ) Fault
stats_in value = do
  items ← array_in value
  stats_of items

-- ---- learns: numbers of moves, none of them twice

unfoldable pub has_number : ℕ → List ℕ → Bool
has_number number numbers = list_any (λ other. other == number) numbers

-- the number of the move whose id is that of a text
unfoldable pub learned_in : List MoveItem → List ℕ → Data → Result ℕ Fault
learned_in moves before value = do
  text ← text_in value
  mv ← some_or Unknown (move_index (id_of text) moves)
  _ ← ensure Repeat (not (has_number mv before))
  Ok mv

unfoldable pub learns_in : List MoveItem → Data → Result (List ℕ) Fault
learns_in moves value = do
  items ← array_in value
  each (λ before after. learned_in moves before) [] items

-- ---- a species

unfoldable pub species_item_in : List TypeItem → List MoveItem → List SpeciesItem → Data → Result SpeciesItem Fault
species_item_in types moves before value = do
  _ ← object_in value
  named ← required (codes "name") (own_name_in (λ item. item.id) before) value
  own_types ← required (codes "types") (types_in types) value
  stats ← required (codes "stats") stats_in value
  learns ← required (codes "learns") (learns_in moves) value
  Ok (record { name = named.name; id = named.id; types = own_types; stats = stats; learns = learns })
