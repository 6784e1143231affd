-- The lines of an export text, and what a part of one may be.
use Rattle.std.specs.Prelude.{ℕ, ◌==◌, ◌&&◌, ◌||◌, not, Bool, List, [], ◌∷◌, Option, Some, None, if◌then◌else◌}
use Rattle.std.specs.List.{slice_split, concat, list_all}
use Rattle.ps_base.specs.Cuts.{after_front}
use Rattle.ps_base.specs.Names.{trim_end_spaces}
use Rattle.ps_packed.specs.Packed.{is_nil}
use Rattle.ps_base.specs.Characters as characters

-- what stands between these bytes
abbrev pub parts : ℕ → List ℕ → List (List ℕ)
parts between text = slice_split (λ byte. byte == between) text

-- what a newline ends, and the rest
abbrev pub lines : List ℕ → List (List ℕ)
lines text = parts characters.newline text

-- a line without what means nothing: carriage returns, and spaces at its end
unfoldable pub clean : List ℕ → List ℕ
clean line = trim_end_spaces (concat (parts characters.carriage_return line))

-- a parenthesis or an at sign, which part the names, the gender and the item
abbrev pub is_sign : ℕ → Bool
is_sign byte = byte == characters.open_parenthesis || byte == characters.close_parenthesis || byte == characters.at_sign

-- something, without those signs
unfoldable pub is_bare : List ℕ → Bool
is_bare text = not (is_nil text) && list_all (λ byte. not (is_sign byte)) text

abbrev pub bare : Option (List ℕ) → Option (List ℕ)
bare None = None
bare (Some text) = if is_bare text then Some text else None

-- what follows a colon and one space
abbrev pub after_space : List ℕ → Option (List ℕ)
after_space rest = after_front (characters.space ∷ []) rest
