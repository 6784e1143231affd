-- What a stage makes of a stat.
use Rattle.std.specs.Prelude.{ℕ, ℤ, pos, negsuc, [], ◌∷◌, ◌+◌, ◌*◌, ◌/◌, min, max, slice_index}

-- a stage's hundredths: from 0 up 100 and 50 more a stage, and these from -1 down (`negsuc n` is -1 - n)
unfoldable pub hundredths_at : ℤ → ℕ
hundredths_at (pos stages) = 100 + 50 * stages
hundredths_at (negsuc index) = slice_index (66 ∷ 50 ∷ 40 ∷ 33 ∷ 28 ∷ 25 ∷ []) index

-- a number at a stage, rounded down
unfoldable pub at_stage : ℕ → ℤ → ℕ
at_stage number stage = number * hundredths_at stage / 100

-- a stat at a stage, cut to 1 to 999
unfoldable pub staged_of : ℕ → ℤ → ℕ
staged_of stat stage = max 1 (min 999 (at_stage stat stage))
