-- Parts of a text, round a byte.
use Rattle.std.specs.Prelude.{ℕ, ◌==◌, List, [], ◌∷◌, Option, Some, None, option_map, if◌then◌else◌}
use Rattle.ps_base.specs.Characters as characters

-- the byte stands before the first part
abbrev pub before_parts : ℕ → List ℕ × List ℕ → List ℕ × List ℕ
before_parts byte parts = (byte ∷ parts.0, parts.1)

-- the parts before and after the first of these bytes
abbrev pub at_first : ℕ → List ℕ → Option (List ℕ × List ℕ)
at_first wanted [] = None
at_first wanted (byte ∷ text) = if byte == wanted then Some ([], text) else option_map (before_parts byte) (at_first wanted text)

-- the parts round this byte, where none of its kind comes later
abbrev pub later_or_here : ℕ → ℕ → List ℕ → Option (List ℕ × List ℕ) → Option (List ℕ × List ℕ)
later_or_here wanted byte text (Some later) = Some (before_parts byte later)
later_or_here wanted byte text None = if byte == wanted then Some ([], text) else None

-- the parts before and after the last of these bytes
abbrev pub at_last : ℕ → List ℕ → Option (List ℕ × List ℕ)
at_last wanted [] = None
at_last wanted (byte ∷ text) = later_or_here wanted byte text (at_last wanted text)

-- without the one space at its front
abbrev pub after_space : List ℕ → List ℕ
after_space [] = []
after_space (byte ∷ text) = if byte == characters.space then text else byte ∷ text
