-- The types of a dex.
use Rattle.std.specs.Prelude.{ℕ, ◌||◌, Bool, false, List, codes, position, slice_get, Option, Some, None, bytes_eq, Result, Ok}
use Rattle.serde_json.specs.Data.{Data}
use Rattle.ps_base.specs.Ids.{id_of}
use Rattle.ps_data.specs.declared.fault.DataKind.TheVariants.{Unknown}
use Rattle.ps_data.specs.declared.fault.Fault.{Fault}
use Rattle.ps_data.specs.Reading.{◌>>=◌, some_or, required}
use Rattle.ps_data.specs.Forms.{object_in, text_in, boolean_in}
use Rattle.ps_dex.specs.declared.item.TypeItem.{TypeItem}
use Rattle.ps_dex.specs.Names.{own_name_in}

-- the number of the type with an id: its index
unfoldable pub type_index : List ℕ → List TypeItem → Option ℕ
type_index id types = position (λ item. bytes_eq item.id id) types

unfoldable pub type_item_in : List TypeItem → Data → Result TypeItem Fault
type_item_in before value = do
  _ ← object_in value
  named ← required (codes "name") (own_name_in (λ item. item.id) before) value
  special ← required (codes "special") boolean_in value
  Ok (record { name = named.name; id = named.id; special = special })

-- the number of the type whose id is that of a text
unfoldable pub type_in : List TypeItem → Data → Result ℕ Fault
type_in types value = do
  text ← text_in value
  some_or Unknown (type_index (id_of text) types)

-- whether a type uses Special
abbrev pub uses_special : Option TypeItem → Bool
uses_special None = false
uses_special (Some item) = item.special

abbrev pub is_special : List TypeItem → ℕ → Bool
is_special types number = uses_special (slice_get types number)

-- whether a type is `normal` or `fighting`
abbrev pub makes_contact : Option TypeItem → Bool
makes_contact None = false
makes_contact (Some item) = bytes_eq item.id (codes "normal") || bytes_eq item.id (codes "fighting")

abbrev pub is_contact : List TypeItem → ℕ → Bool
is_contact types number = makes_contact (slice_get types number)
