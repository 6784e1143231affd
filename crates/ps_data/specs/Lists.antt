-- Lists of items of one form, and objects whose keys are free.
use Rattle.std.specs.Prelude.{ℕ, List, [], ◌∷◌, ◌++◌, length, option_map, Result, Ok}
use Rattle.serde_json.specs.Data.{Data, Members, no_members, member}
use Rattle.serde_json.specs.Find.{as_object}
use Rattle.ps_data.specs.Paths.{Key, Index}
use Rattle.ps_data.specs.declared.fault.DataKind.TheVariants.{Shape}
use Rattle.ps_data.specs.declared.fault.Fault.{Fault}
use Rattle.ps_data.specs.Reading.{◌>>=◌, under, some_or, optional}
use Rattle.ps_data.specs.Forms.{sized_in}

-- The items of a list in order. Each is read beside what the items before it gave and the items after it.
unfoldable pub each : {A : Type 0} → (List A → List Data → Data → Result A Fault) → List A → List Data → Result (List A) Fault
each form before [] = Ok before
each form before (value ∷ after) = under (Index (length before)) (form before after value) >>= λ item. each form (before ++ item ∷ []) after

-- a list of least to most items of one form
abbrev pub list_in : {A : Type 0} → ℕ → ℕ → (List A → List Data → Data → Result A Fault) → Data → Result (List A) Fault
list_in least most form value = sized_in least most value >>= each form []

-- such a list at a key, empty where the key is missing
abbrev pub list_at : {A : Type 0} → List ℕ → ℕ → ℕ → (List A → List Data → Data → Result A Fault) → Data → Result (List A) Fault
list_at key least most form value = optional key [] (list_in least most form) value

-- the entries of an object, which are in byte order of their keys
abbrev pub entries_of : Members → List (List ℕ × Data)
entries_of no_members = []
entries_of (member key value members) = (key, value) ∷ entries_of members

-- The entries of an object in order. Each is read beside what the entries before it gave.
unfoldable pub each_entry : {A : Type 0} → (List A → List ℕ → Data → Result A Fault) → List A → List (List ℕ × Data) → Result (List A) Fault
each_entry form before [] = Ok before
each_entry form before (entry ∷ after) = under (Key entry.0) (form before entry.0 entry.1) >>= λ item.
    each_entry form (before ++ item ∷ []) after

-- an object whose keys are free, with entries of one form
abbrev pub entries_in : {A : Type 0} → (List A → List ℕ → Data → Result A Fault) → Data → Result (List A) Fault
entries_in form value = some_or Shape (option_map entries_of (as_object value)) >>= each_entry form []

-- such an object at a key, empty where the key is missing
abbrev pub entries_at : {A : Type 0} → List ℕ → (List A → List ℕ → Data → Result A Fault) → Data → Result (List A) Fault
entries_at key form value = optional key [] (entries_in form) value
