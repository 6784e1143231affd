-- What the fields of a packed team may say. A text here is the list of its characters.
use Rattle.std.specs.Prelude.{ℕ, zero, suc, ◌+◌, ◌-◌, ◌*◌, ◌==◌, ◌&&◌, ◌||◌, List, [], ◌∷◌, length, map, filter, Bool, true, false}
use Rattle.std.specs.Prelude.{not, nat_le}
use Rattle.std.specs.List.{list_all, list_any, slice_split}
use Rattle.ps_base.specs.Ids.{id_of, is_id_byte, lower}
use Rattle.ps_base.specs.Characters as characters

-- no bar, no bracket and nothing below U+0020
abbrev pub is_field_char : ℕ → Bool
is_field_char char = nat_le characters.space char && not (char == characters.bar) && not (char == characters.close_bracket)

-- what a field asks of its text
pub data Form : Type 0 where
  -- up to so many characters
  words : ℕ → Form
  -- moves between commas
  moves : Form
  -- six numbers up to this one between commas, and whether `0` alone may stand for six zeros
  spread : Bool → ℕ → Form
  -- nothing, or one of these letters
  letter : List ℕ → Form
  -- nothing, or a number from 1 to 100
  level : Form

-- ---- numbers

abbrev pub are_digits : List ℕ → Bool
are_digits word = list_all (λ char. nat_le characters.digit_zero char && nat_le char characters.digit_nine) word

-- the number that digits spell, after one before them
abbrev pub number_after : ℕ → List ℕ → ℕ
number_after number [] = number
number_after number (digit ∷ digits) = number_after (10 * number + (digit - characters.digit_zero)) digits

-- leading zeros count for nothing, and no digit is 0
abbrev pub number_of : List ℕ → ℕ
number_of word = number_after 0 word

-- up to three digits of a number that isn't above this one
abbrev pub is_number : ℕ → List ℕ → Bool
is_number most digits = are_digits digits && nat_le (length digits) 3 && nat_le (number_of digits) most

-- ---- parts between commas

abbrev pub parts : List ℕ → List (List ℕ)
parts word = slice_split (λ char. char == characters.comma) word

-- a character that an id keeps
abbrev pub is_id_letter : ℕ → Bool
is_id_letter char = is_id_byte (lower char)

-- whether the part's id isn't empty
unfoldable pub has_id : List ℕ → Bool
has_id part = list_any is_id_letter part

-- the ids of the parts that have one
abbrev pub ids_of : List ℕ → List (List ℕ)
ids_of word = map id_of (filter has_id (parts word))

-- no part has more than 32 characters
unfoldable pub are_short : List ℕ → Bool
are_short word = list_all (λ part. nat_le (length part) 32) (parts word)

unfoldable pub id_count : List ℕ → ℕ
id_count word = length (filter has_id (parts word))

abbrev pub is_spread_char : ℕ → Bool
is_spread_char char = (nat_le characters.digit_zero char && nat_le char characters.digit_nine) || char == characters.comma

-- numbers between commas, an empty part among them
unfoldable pub are_numbers : ℕ → List ℕ → Bool
are_numbers most word = list_all is_spread_char word && list_all (is_number most) (parts word)

-- the text `0`
abbrev pub is_zero : List ℕ → Bool
is_zero [] = false
is_zero (char ∷ []) = char == characters.digit_zero
is_zero (char ∷ next ∷ rest) = false

-- ---- the forms

abbrev pub is_spread : Bool → ℕ → List ℕ → Bool
is_spread zero_alone most [] = true
is_spread zero_alone most (char ∷ rest) = (zero_alone && is_zero (char ∷ rest))
    || (are_numbers most (char ∷ rest) && length (parts (char ∷ rest)) == 6)

abbrev pub is_letter : List ℕ → List ℕ → Bool
is_letter letters [] = true
is_letter letters (char ∷ []) = list_any (λ known. char == known) letters
is_letter letters (char ∷ next ∷ rest) = false

abbrev pub is_level : List ℕ → Bool
is_level [] = true
is_level (char ∷ rest) = is_number 100 (char ∷ rest) && nat_le 1 (number_of (char ∷ rest))

unfoldable pub in_form : Form → List ℕ → Bool
in_form (words most) word = list_all is_field_char word && nat_le (length word) most
in_form moves word = list_all is_field_char word && are_short word && nat_le (id_count word) 4
in_form (spread zero_alone most) word = is_spread zero_alone most word
in_form (letter letters) word = is_letter letters word
in_form level word = is_level word

-- ---- the twelve fields, from 0

-- the number of the last
abbrev pub last : ℕ
last = 11

abbrev pub nick : Form
nick = words 18

abbrev pub species : Form
species = words 32

abbrev pub item : Form
item = words 32

abbrev pub ability : Form
ability = words 32

abbrev pub nature : Form
nature = words 32

abbrev pub evs : Form
evs = spread true 255

-- M, F or N
abbrev pub gender : Form
gender = letter (77 ∷ 70 ∷ 78 ∷ [])

abbrev pub ivs : Form
ivs = spread false 31

-- S
abbrev pub shiny : Form
shiny = letter (83 ∷ [])

abbrev pub misc : Form
misc = words 64

abbrev pub form_of : ℕ → Form
form_of zero = nick
form_of (suc zero) = species
form_of (suc (suc zero)) = item
form_of (suc (suc (suc zero))) = ability
form_of (suc (suc (suc (suc zero)))) = moves
form_of (suc (suc (suc (suc (suc zero))))) = nature
form_of (suc (suc (suc (suc (suc (suc zero)))))) = evs
form_of (suc (suc (suc (suc (suc (suc (suc zero))))))) = gender
form_of (suc (suc (suc (suc (suc (suc (suc (suc zero)))))))) = ivs
form_of (suc (suc (suc (suc (suc (suc (suc (suc (suc zero))))))))) = shiny
form_of (suc (suc (suc (suc (suc (suc (suc (suc (suc (suc zero)))))))))) = level
form_of (suc (suc (suc (suc (suc (suc (suc (suc (suc (suc (suc more))))))))))) = misc
