-- The id of a text: ASCII letters in lower case, and everything but a to z and 0 to 9 dropped.
use Rattle.std.specs.Prelude.{ℕ, ◌+◌, Bool, ◌&&◌, ◌||◌, List, [], ◌∷◌, Option, Some, None, map, filter, nat_le, if◌then◌else◌}
use Rattle.std.specs.List.{list_all}
use Rattle.ps_base.specs.Characters as characters

-- an ASCII letter in lower case, and any other byte as it is
abbrev pub lower : ℕ → ℕ
lower byte = if nat_le characters.capital_a byte && nat_le byte characters.capital_z then byte + 32 else byte

-- a to z or 0 to 9
abbrev pub is_id_byte : ℕ → Bool
is_id_byte byte = (nat_le characters.letter_a byte && nat_le byte characters.letter_z)
    || (nat_le characters.digit_zero byte && nat_le byte characters.digit_nine)

abbrev pub id_of : List ℕ → List ℕ
id_of text = filter is_id_byte (map lower text)

-- whether a text is an id
abbrev pub is_id : List ℕ → Bool
is_id text = list_all is_id_byte text

-- the id that a text is, if it is one that isn't empty
abbrev pub id_in : List ℕ → Option (List ℕ)
id_in [] = None
id_in (byte ∷ bytes) = if is_id (byte ∷ bytes) then Some (byte ∷ bytes) else None
