-- The words of `show`.
use Rattle.std.specs.Prelude.{ℕ, ◌+◌, Bool, true, false, List, [], ◌∷◌, codes, Option, Some, None, Result, Ok, Err, if◌then◌else◌}
use Rattle.std.specs.Str.{bytes_eq}
use Rattle.std.specs.Option.{option_copied}
use Rattle.program_commands.specs.Words.{Options, is_name, options_in, options_of}
use Rattle.program_show.specs.declared.words.ShowWords.{ShowWords}

-- what `show` is asked for: one format or all that the files say, as JSON or as text
pub record Asked : Type 0 where
  pub format : Option (List ℕ)
  pub as_json : Bool
  pub options : Options

abbrev pub asks : Option (List ℕ) → Bool → Result Options ℕ → Result Asked ℕ
asks format as_json (Ok options) = Ok (record { format = format; as_json = as_json; options = options })
asks format as_json (Err at) = Err at

-- from this index on: `--json`, or not, and then the options
abbrev pub json_in : Option (List ℕ) → ℕ → List (List ℕ) → Result Asked ℕ
json_in format at [] = asks format false (options_in at [])
json_in format at (word ∷ words) =
    if bytes_eq word (codes "--json") then asks format true (options_in (at + 1) words)
    else asks format false (options_in at (word ∷ words))

-- behind `show`: a format, or not
abbrev pub show_in : List (List ℕ) → Result Asked ℕ
show_in [] = json_in None 1 []
show_in (word ∷ words) = if is_name word then json_in (Some word) 2 words else json_in None 1 (word ∷ words)

abbrev pub show_words_in : List (List ℕ) → Result Asked ℕ
show_words_in [] = Err 0
show_words_in (word ∷ words) = if bytes_eq word (codes "show") then show_in words else Err 0

-- ---- what holds where the words ask for it, and where they don't

abbrev pub IfShow : Result Asked ℕ → (Asked → Type 0) → Type 0
IfShow (Ok asked) holds = holds asked
IfShow (Err at) holds = Unit {0}

abbrev pub IfUsage : Result Asked ℕ → (ℕ → Type 0) → Type 0
IfUsage (Ok asked) holds = Unit {0}
IfUsage (Err at) holds = holds at

-- ---- for the code: what was read, as contracts see it

abbrev pub show_of : ShowWords → Asked
show_of words = record { format = option_copied words.format; as_json = words.as_json; options = options_of words.options }
