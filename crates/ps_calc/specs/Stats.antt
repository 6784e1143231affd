-- A member's numbers, from its species, its IVs and EVs and its level.
use Rattle.std.specs.Prelude.{ℕ, List, ◌+◌, ◌*◌, ◌/◌, ◌%◌, slice_index}

-- the DV of an IV: half of it, rounded down
unfoldable pub dv_of : ℕ → ℕ
dv_of iv = iv / 2

-- 1 for an odd number, 0 for an even one
unfoldable pub odd : ℕ → ℕ
odd number = number % 2

-- the DV of HP: 8, 4, 2 and 1 for the odd ones among the DVs of Attack, Defense, Speed and Special, in this order
unfoldable pub hp_dv_of : List ℕ → ℕ
hp_dv_of dvs =
    8 * odd (slice_index dvs 0) + 4 * odd (slice_index dvs 1) + 2 * odd (slice_index dvs 2) + odd (slice_index dvs 3)

-- what a base number, a DV and an EV grow to at a level, out of 100
unfoldable pub grown : ℕ → ℕ → ℕ → ℕ → ℕ
grown base dv ev level = (2 * (base + dv) + ev / 4) * level / 100

-- Attack, Defense, Special and Speed
unfoldable pub stat_of : ℕ → ℕ → ℕ → ℕ → ℕ
stat_of base dv ev level = grown base dv ev level + 5

-- the greatest health
unfoldable pub hp_stat_of : ℕ → ℕ → ℕ → ℕ → ℕ
hp_stat_of base dv ev level = grown base dv ev level + level + 10
