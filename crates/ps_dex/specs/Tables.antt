-- What a dex file says.
use Rattle.std.specs.Prelude.{ℕ, List, [], codes, Result, Ok}
use Rattle.serde_json.specs.Data.{Data}
use Rattle.ps_data.specs.declared.fault.Fault.{Fault}
use Rattle.ps_data.specs.Reading.{◌>>=◌, optional}
use Rattle.ps_data.specs.Forms.{json_in, object_in}
use Rattle.ps_data.specs.Lists.{list_at, entries_at}
use Rattle.ps_dex.specs.declared.item.Tables.{Tables}
use Rattle.ps_dex.specs.Types.{type_item_in}
use Rattle.ps_dex.specs.Factors.{factors_in}
use Rattle.ps_dex.specs.Moves.{move_item_in}
use Rattle.ps_dex.specs.Species.{species_item_in}
use Rattle.ps_dex.specs.Aliases.{alias_item_in}

-- the keys of a dex in their order, each of which may be missing
unfoldable pub tables_in : Data → Result Tables Fault
tables_in value = do
  _ ← object_in value
  types ← list_at (codes "types") 0 32 (λ before after. type_item_in before) value
  factors ← optional (codes "factors") [] (factors_in types) value
  moves ← list_at (codes "moves") 0 1024 (λ before after. move_item_in types before) value
  species ← list_at (codes "species") 0 1024 (λ before after. species_item_in types moves before) value
  aliases ← entries_at (codes "aliases") (λ before key. alias_item_in species moves before key) value
  Ok (record { types = types; factors = factors; moves = moves; species = species; aliases = aliases })

-- the bytes of a dex file
unfoldable pub tables_of : List ℕ → Result Tables Fault
tables_of bytes = json_in bytes >>= tables_in
