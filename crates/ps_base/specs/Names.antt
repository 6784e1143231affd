-- The name that a text is, or its first fault.
use Rattle.std.specs.Prelude.{◌≡◌, ℕ, ◌==◌, Bool, ◌||◌, List, [], ◌∷◌, length, reverse, Option, Some, None, Result, Ok, Err, nat_lt}
use Rattle.std.specs.Prelude.{if◌then◌else◌}
use Rattle.std.specs.List.{position}
use Rattle.std.specs.Str.{chars}
use Rattle.ps_base.specs.Ids.{id_of}
use Rattle.ps_base.specs.Numbers.{counted}
use Rattle.ps_base.specs.declared.name.NameFault.{NameFault}
use Rattle.ps_base.specs.declared.name.NameFault.TheVariants.{BadChar, Long, Empty, NoMemory}
use Rattle.ps_base.specs.Characters as characters

-- without the spaces at its front
abbrev pub after_spaces : List ℕ → List ℕ
after_spaces [] = []
after_spaces (byte ∷ bytes) = if byte == characters.space then after_spaces bytes else byte ∷ bytes

-- without the spaces at its end
abbrev pub trim_end_spaces : List ℕ → List ℕ
trim_end_spaces bytes = reverse (after_spaces (reverse bytes))

-- without the spaces at both ends
abbrev pub between_spaces : List ℕ → List ℕ
between_spaces bytes = trim_end_spaces (after_spaces bytes)

-- a character that can't stand in a name: outside U+0020 to U+007E, the bar and the comma
abbrev pub is_bad : ℕ → Bool
is_bad char = nat_lt char characters.space || (nat_lt characters.tilde char || (char == characters.bar || char == characters.comma))

-- the text itself, where its id isn't empty
abbrev pub with_id : List ℕ → List ℕ → Result (List ℕ) NameFault
with_id text [] = Err Empty
with_id text (byte ∷ bytes) = Ok text

-- a text of so many characters, none of which is bad
abbrev pub fitting : ℕ → List ℕ → Result (List ℕ) NameFault
fitting count text = if nat_lt 18 count then Err (Long (counted count)) else with_id text (id_of text)

-- a text and the index of its first bad character
abbrev pub clean : Option ℕ → List ℕ → Result (List ℕ) NameFault
clean (Some at) text = Err (BadChar (counted at))
clean None text = fitting (length (chars text)) text

-- the name of what is left between the spaces
abbrev pub left_name : List ℕ → Result (List ℕ) NameFault
left_name text = clean (position is_bad (chars text)) text

unfoldable pub name_in : List ℕ → Result (List ℕ) NameFault
name_in text = left_name (between_spaces text)

-- What a call that found this fault was to find: this fault, but out of memory may come at any text.
abbrev pub IsNameFault : NameFault → Result (List ℕ) NameFault → Type 0
IsNameFault (BadChar at) name = name ≡ Err (BadChar at)
IsNameFault (Long count) name = name ≡ Err (Long count)
IsNameFault Empty name = name ≡ Err Empty
IsNameFault NoMemory name = Unit {0}
