-- Health as those see it who don't own the member.
use Rattle.std.specs.Prelude.{ℕ, ◌+◌, ◌*◌, ◌/◌, ◌-◌, ◌==◌, min, max, if◌then◌else◌}

-- hundredths of the greatest health, rounded up: 0 only at none, 100 only at full health
unfoldable pub hundredths_of : ℕ → ℕ → ℕ
hundredths_of hp most =
    if hp == 0 then 0 else if hp == most then 100 else min 99 ((100 * hp + (most - 1)) / most)

-- 48ths of the greatest health, rounded down, but at least one where there is some
unfoldable pub pixels_of : ℕ → ℕ → ℕ
pixels_of hp most = if hp == 0 then 0 else max 1 (48 * hp / most)
