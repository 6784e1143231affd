-- The plain forms of a value.
use Rattle.std.specs.Prelude.{ℕ, ℤ, pos, List, [], ◌∷◌, length, option_map, is_some, Result, Ok, Bool, ◌&&◌, ⊤, nat_le, int_le}
use Rattle.std.specs.Prelude.{if◌then◌else◌}
use Rattle.std.specs.Str.{is_utf8}
use Rattle.serde_json.specs.Data.{Num, unsigned, negative, float, Data, Items, no_items, item}
use Rattle.serde_json.specs.Find.{as_object, as_array, as_str, as_bool, as_number}
use Rattle.serde_json.specs.Read.{read}
use Rattle.ps_data.specs.declared.fault.DataKind.TheVariants.{Json, Shape, Range}
use Rattle.ps_data.specs.declared.fault.Fault.{Fault}
use Rattle.ps_data.specs.Reading.{◌>>=◌, refuse, some_or, ensure}

-- the value of a JSON text in UTF-8
abbrev pub json_in : List ℕ → Result Data Fault
json_in bytes = if is_utf8 bytes then some_or Json (read bytes) else refuse Json

-- an object, whatever it has
abbrev pub object_in : Data → Result ⊤ Fault
object_in value = ensure Shape (is_some (as_object value))

abbrev pub text_in : Data → Result (List ℕ) Fault
text_in value = some_or Shape (as_str value)

abbrev pub boolean_in : Data → Result Bool Fault
boolean_in value = some_or Shape (as_bool value)

-- a whole number of 64 bits from low to high; JSON numbers that aren't whole ones of 64 bits are of another type
abbrev pub natural : ℕ → ℕ → Num → Result ℕ Fault
natural low high (unsigned number) = if nat_le low number && nat_le number high then Ok number else refuse Range
natural low high (negative number) = refuse Range
natural low high (float number) = refuse Shape

abbrev pub number_in : ℕ → ℕ → Data → Result ℕ Fault
number_in low high value = some_or Shape (as_number value) >>= natural low high

-- the same with a sign
abbrev pub between : ℤ → ℤ → ℤ → Result ℤ Fault
between low high number = if int_le low number && int_le number high then Ok number else refuse Range

abbrev pub integral : ℤ → ℤ → Num → Result ℤ Fault
integral low high (unsigned number) = between low high (pos number)
integral low high (negative number) = between low high number
integral low high (float number) = refuse Shape

abbrev pub integer_in : ℤ → ℤ → Data → Result ℤ Fault
integer_in low high value = some_or Shape (as_number value) >>= integral low high

abbrev pub list_of : Items → List Data
list_of no_items = []
list_of (item value ds) = value ∷ list_of ds

-- the items of an array
abbrev pub array_in : Data → Result (List Data) Fault
array_in value = some_or Shape (option_map list_of (as_array value))

-- the items of an array of least to most items
abbrev pub sized_in : ℕ → ℕ → Data → Result (List Data) Fault
sized_in least most value = array_in value >>= λ ds. if nat_le least (length ds) && nat_le (length ds) most then Ok ds else refuse Range
