-- The names of types, moves and species.
use Rattle.std.specs.Prelude.{ℕ, ◌==◌, ◌&&◌, Bool, not, List, length, Result, Ok, nat_le}
use Rattle.std.specs.List.{list_all}
use Rattle.serde_json.specs.Data.{Data}
use Rattle.ps_base.specs.Ids.{id_of}
use Rattle.ps_data.specs.declared.fault.DataKind.TheVariants.{Range, Repeat}
use Rattle.ps_data.specs.declared.fault.Fault.{Fault}
use Rattle.ps_data.specs.Reading.{◌>>=◌, ensure}
use Rattle.ps_data.specs.Forms.{text_in}
use Rattle.ps_data.specs.OwnIds.{has_id}
use Rattle.ps_dex.specs.declared.name.Named.{Named}
use Rattle.ps_base.specs.Characters as characters

-- a character from U+0020 to U+007E, but not `|`, `,` or `]`; each of these is one byte
abbrev pub is_name_byte : ℕ → Bool
is_name_byte byte = nat_le characters.space byte && nat_le byte characters.tilde && not (byte == characters.bar)
    && not (byte == characters.comma) && not (byte == characters.close_bracket)

unfoldable pub are_name_bytes : List ℕ → Bool
are_name_bytes text = list_all is_name_byte text

-- such characters, at most 32, with an id that isn't empty, so at least one
unfoldable pub is_name : List ℕ → List ℕ → Bool
is_name text id = are_name_bytes text && nat_le (length text) 32 && not (length id == 0)

-- a name, and its id
unfoldable pub name_in : Data → Result Named Fault
name_in value = do
  text ← text_in value
  _ ← ensure Range (is_name text (id_of text))
  Ok (record { name = text; id = id_of text })

-- a name whose id no item before has; which id an item has is said by `own`
unfoldable pub own_name_in : {A : Type 0} → (A → List ℕ) → List A → Data → Result Named Fault
own_name_in own before value = do
  named ← name_in value
  _ ← ensure Repeat (not (has_id own named.id before))
  Ok named
