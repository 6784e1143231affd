-- The one decimal text of a number of 32 bits.
use Rattle.std.specs.Prelude.{◌≡◌, ℕ, ◌-◌, ◌^◌, ◌<◌, min, ◌==◌, Bool, false, not, ◌&&◌, List, [], ◌∷◌, Option, Some, None, nat_lt}
use Rattle.std.specs.Prelude.{if◌then◌else◌}
use Rattle.std.specs.Fmt.{decimal}
use Rattle.std.specs.Str.{bytes_eq}
use Rattle.std.specs.Str.Parse.{digits_value}
use Rattle.ps_base.specs.Characters as characters

pub record IsNumeral (text : List ℕ) (number : ℕ) : Type 0 where
  pub spelled : text ≡ decimal number
  pub small : number < 2 ^ 32

-- the number that the digits of a text spell, where the text is the decimal text of that number and it has 32 bits
unfoldable pub number_in : List ℕ → Option ℕ
number_in text = if bytes_eq text (decimal (digits_value 10 text))
    && nat_lt (digits_value 10 text) (2 ^ 32) then Some (digits_value 10 text) else None

-- no sign, and no zero before another byte: for the code alone
abbrev pub is_plain : List ℕ → Bool
is_plain [] = false
is_plain (byte ∷ []) = not (byte == characters.plus)
is_plain (byte ∷ next ∷ bytes) = not (byte == characters.plus) && not (byte == characters.digit_zero)

-- a count as a number of 32 bits: the greatest of them where it is greater
abbrev pub counted : ℕ → ℕ
counted count = min count (2 ^ 32 - 1)
