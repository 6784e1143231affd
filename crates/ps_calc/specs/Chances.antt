-- How likely a move lands, and how likely a hit is critical: each a number of 256ths.
use Rattle.std.specs.Prelude.{ℕ, ℤ, neg_ℤ, Bool, ◌*◌, ◌/◌, min, max, if◌then◌else◌}
use Rattle.ps_calc.specs.Stages.{at_stage}

-- a move's accuracy, in percent, as a byte
unfoldable pub byte_of_percent : ℕ → ℕ
byte_of_percent percent = percent * 255 / 100

-- a move's accuracy at the user's accuracy stage, and then at the negated evasion stage of the target, cut to 1 to 255
unfoldable pub accuracy_byte_of : ℕ → ℤ → ℤ → ℕ
accuracy_byte_of percent acc eva =
    max 1 (min 255 (at_stage (at_stage (byte_of_percent percent) acc) (neg_ℤ eva)))

-- half the base Speed, eight times that where the move is often critical, then a quarter under Focus Energy, cut at 255;
-- each division rounds down
unfoldable pub crit_byte_of : ℕ → Bool → Bool → ℕ
crit_byte_of base_speed high focus =
    let first = if high then 8 * (base_speed / 2) else base_speed / 2 in
    min 255 (if focus then first / 4 else first)
