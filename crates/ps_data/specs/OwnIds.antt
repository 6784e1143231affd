-- Ids that no two items of a list have. Which id an item has is said by `own`.
use Rattle.std.specs.Prelude.{◌≡◌, ℕ, ◌==◌, Bool, true, not, List, length, position, is_some, bytes_eq, Result, Ok}
use Rattle.serde_json.specs.Data.{Data}
use Rattle.ps_base.specs.Ids.{id_of, id_in}
use Rattle.ps_data.specs.declared.fault.DataKind.TheVariants.{Range, Repeat}
use Rattle.ps_data.specs.declared.fault.Fault.{Fault}
use Rattle.ps_data.specs.Reading.{◌>>=◌, some_or, ensure}
use Rattle.ps_data.specs.Forms.{text_in}

-- an item has the id
unfoldable pub has_id : {A : Type 0} → (A → List ℕ) → List ℕ → List A → Bool
has_id own id items = is_some (position (λ item. bytes_eq (own item) id) items)

-- no item has the id
abbrev pub IsNew : {A : Type 0} → (A → List ℕ) → List ℕ → List A → Type 0
IsNew own id items = not (has_id own id items) ≡ true

-- at least one character, each of a to z and 0 to 9, and not the id of an item before
unfoldable pub own_id_in : {A : Type 0} → (A → List ℕ) → List A → Data → Result (List ℕ) Fault
own_id_in own before value = do
  text ← text_in value
  id ← some_or Range (id_in text)
  _ ← ensure Repeat (not (has_id own id before))
  Ok id

-- the id of a key: not empty, and not the id of an item before
unfoldable pub key_id_in : {A : Type 0} → (A → List ℕ) → List A → List ℕ → Result (List ℕ) Fault
key_id_in own before key = do
  _ ← ensure Range (not (length (id_of key) == 0))
  _ ← ensure Repeat (not (has_id own (id_of key) before))
  Ok (id_of key)
