-- Pages: sections of rows, as text or as JSON.
use Rattle.std.specs.Prelude.{ℕ, Bool, List, [], ◌∷◌, ◌++◌, codes, if◌then◌else◌}
use Rattle.std.specs.List.{flat_map}
use Rattle.json.specs.Token.{Token, begin_object, end_object, begin_array, end_array, key, string}
use Rattle.json.specs.Print.{print}
use Rattle.file_help.specs.declared.page.Row.{Row}
use Rattle.file_help.specs.declared.page.Section.{Section}
use Rattle.ps_base.specs.Characters as characters

-- the texts with a comma and a space between them, and a word for none
abbrev pub listed : List (List ℕ) → List ℕ
listed [] = codes "none"
listed (text ∷ texts) = text ++ flat_map (λ next. codes ", " ++ next) texts

-- ---- as text

-- `  KEY: VALUE` and a newline
abbrev pub row_text : Row → List ℕ
row_text row = codes "  " ++ row.key ++ codes ": " ++ row.value ++ characters.newline ∷ []

-- the rows, and a line that says so where there is none
abbrev pub rows_text : List Row → List ℕ
rows_text [] = codes "  none" ++ characters.newline ∷ []
rows_text (row ∷ rows) = flat_map row_text (row ∷ rows)

-- the heading, the rows, and an empty line
abbrev pub section_text : Section → List ℕ
section_text section = section.title ++ characters.newline ∷ [] ++ rows_text section.rows ++ characters.newline ∷ []

abbrev pub text_page : List Section → List ℕ
text_page sections = flat_map section_text sections

-- ---- as JSON: an object with each heading as a key; its value is the array of the rows, each an array of two texts

abbrev pub row_tokens : Row → List Token
row_tokens row = begin_array ∷ string row.key ∷ string row.value ∷ end_array ∷ []

abbrev pub section_tokens : Section → List Token
section_tokens section = key section.title ∷ begin_array ∷ [] ++ (flat_map row_tokens section.rows ++ end_array ∷ [])

abbrev pub page_tokens : List Section → List Token
page_tokens sections = begin_object ∷ [] ++ (flat_map section_tokens sections ++ end_object ∷ [])

-- and a newline
abbrev pub json_page : List Section → List ℕ
json_page sections = print (page_tokens sections) ++ characters.newline ∷ []

abbrev pub page_of : Bool → List Section → List ℕ
page_of as_json sections = if as_json then json_page sections else text_page sections
