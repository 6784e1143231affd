-- The limits of an input: 200,000 lines and 16,777,216 bytes.
use Rattle.std.specs.Prelude.{ℕ, ◌+◌, ◌≤◌, List, [], ◌∷◌, length, Option, Some, None, nat_le, ◌==◌, if◌then◌else◌}
use Rattle.std.specs.Io.KnownBytes.{Consumes}
use Rattle.ps_base.specs.Characters as characters

-- the most lines and the most bytes
abbrev pub most_lines : ℕ
most_lines = 200000

abbrev pub most_bytes : ℕ
most_bytes = 16777216

-- the count that first goes past its limit, where this many bytes and newlines stand before the list. A line begins with
-- its first byte, so a byte behind 200,000 newlines begins line 200,001. Where one byte passes both limits the count is that of lines
abbrev pub long_from : ℕ → ℕ → List ℕ → Option ℕ
long_from size breaks [] = None
long_from size breaks (byte ∷ bytes) = if nat_le most_lines breaks then Some (most_lines + 1) else
    (if nat_le most_bytes size then Some (most_bytes + 1) else long_from (size + 1)
    (if byte == characters.newline then breaks + 1 else breaks) bytes)

abbrev pub long_of : List ℕ → Option ℕ
long_of bytes = long_from 0 0 bytes

-- how many newlines there are: for the code's count
abbrev pub breaks_from : ℕ → List ℕ → ℕ
breaks_from breaks [] = breaks
breaks_from breaks (byte ∷ bytes) = breaks_from (if byte == characters.newline then breaks + 1 else breaks) bytes

abbrev pub breaks_of : List ℕ → ℕ
breaks_of bytes = breaks_from 0 bytes

-- what was read is a front of what was left, and at most one byte more than the limit
pub record ReadsFew (old new : Option (List ℕ)) : Type 0 where
  pub front : List ℕ
  pub taken : Consumes old new front
  pub few : length front ≤ most_bytes + 1
