-- Texts of a fixed set, each of which stands for something.
use Rattle.std.specs.Prelude.{ℕ, List, [], ◌∷◌, Option, Some, None, bytes_eq, Result, if◌then◌else◌}
use Rattle.serde_json.specs.Data.{Data}
use Rattle.ps_data.specs.declared.fault.DataKind.TheVariants.{Unknown}
use Rattle.ps_data.specs.declared.fault.Fault.{Fault}
use Rattle.ps_data.specs.Reading.{◌>>=◌, some_or}
use Rattle.ps_data.specs.Forms.{text_in}

-- what a word stands for by a table of words
abbrev pub meaning : {A : Type 0} → List (List ℕ × A) → List ℕ → Option A
meaning [] word = None
meaning (entry ∷ table) word = if bytes_eq word entry.0 then Some entry.1 else meaning table word

-- a word of a table; another text is Unknown
abbrev pub word_in : {A : Type 0} → List (List ℕ × A) → Data → Result A Fault
word_in table value = text_in value >>= λ word. some_or Unknown (meaning table word)
