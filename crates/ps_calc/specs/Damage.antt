-- The damage of a hit. Each division rounds down.
use Rattle.ps_calc.specs.declared.formula.Hit.{Hit}
use Rattle.std.specs.Prelude.{ℕ, Bool, ◌+◌, ◌*◌, ◌/◌, min, max, nat_lt, ◌||◌, if◌then◌else◌, slice_index}

-- the level that counts: a critical hit doubles it
unfoldable pub level_of : Hit → ℕ
level_of hit = if hit.crit then 2 * hit.level else hit.level

-- whether the two stats are too great for the formula
unfoldable pub are_wide : Hit → Bool
are_wide hit = nat_lt 255 hit.attack || nat_lt 255 hit.defence

-- a stat as the formula takes it: a quarter of it, at least 1, where the two are too great
unfoldable pub scaled : Bool → ℕ → ℕ
scaled wide stat = if wide then max 1 (stat / 4) else stat

-- from a level, a power, an attack and a defence: cut at 997, plus 2
unfoldable pub base : ℕ → ℕ → ℕ → ℕ → ℕ
base level power attack defence = min 997 ((2 * level / 5 + 2) * power * attack / defence / 50) + 2

-- half as much again where the move has a type of its user
unfoldable pub with_stab : Bool → ℕ → ℕ
with_stab stab damage = if stab then damage + damage / 2 else damage

-- by a factor in tenths: 5, 10 or 20
unfoldable pub with_factor : ℕ → ℕ → ℕ
with_factor factor damage = damage * factor / 10

-- from 217 to 255 parts of 255, where there is more than 1
unfoldable pub rolled : ℕ → ℕ → ℕ
rolled roll damage = if nat_lt 1 damage then damage * roll / 255 else damage

-- the base damage of a hit
unfoldable pub base_of : Hit → ℕ
base_of hit = base (level_of hit) hit.power (scaled (are_wide hit) hit.attack) (scaled (are_wide hit) hit.defence)

-- with the bonus of the user's types and then the target's two factors, one after the other, at least 1
unfoldable pub typed : Hit → ℕ → ℕ
typed hit damage =
    max 1 (with_factor (slice_index hit.factors 1) (with_factor (slice_index hit.factors 0) (with_stab hit.stab damage)))

-- the damage of a hit
unfoldable pub damage_of : Hit → ℕ
damage_of hit = rolled hit.roll (typed hit (base_of hit))
