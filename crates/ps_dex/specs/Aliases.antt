-- The aliases of a dex.
use Rattle.std.specs.Prelude.{ℕ, ◌||◌, List, position, Option, is_some, bytes_eq, Result, Ok}
use Rattle.serde_json.specs.Data.{Data}
use Rattle.ps_base.specs.Ids.{id_of}
use Rattle.ps_data.specs.declared.fault.DataKind.TheVariants.{Unknown}
use Rattle.ps_data.specs.declared.fault.Fault.{Fault}
use Rattle.ps_data.specs.Reading.{◌>>=◌, ensure}
use Rattle.ps_data.specs.Forms.{text_in}
use Rattle.ps_data.specs.OwnIds.{key_id_in}
use Rattle.ps_dex.specs.declared.item.MoveItem.{MoveItem}
use Rattle.ps_dex.specs.declared.item.SpeciesItem.{SpeciesItem}
use Rattle.ps_dex.specs.declared.item.AliasItem.{AliasItem}
use Rattle.ps_dex.specs.Moves.{move_index}
use Rattle.ps_dex.specs.Species.{species_index}

-- the index of the alias with an id
unfoldable pub alias_index : List ℕ → List AliasItem → Option ℕ
alias_index id aliases = position (λ alias. bytes_eq alias.id id) aliases

-- The key is tested before the value, which names a species, a move or both.
unfoldable pub alias_item_in : List SpeciesItem → List MoveItem → List AliasItem → List ℕ → Data → Result AliasItem Fault
alias_item_in species moves before key value = do
  id ← key_id_in (λ alias. alias.id) before key
  text ← text_in value
  _ ← ensure Unknown (is_some (species_index (id_of text) species) || is_some (move_index (id_of text) moves))
  Ok (record { id = id; species = species_index (id_of text) species; mv = move_index (id_of text) moves })
