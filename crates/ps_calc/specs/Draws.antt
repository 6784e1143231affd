-- The random source: one step, and what a draw answers.
use Rattle.ps_calc.specs.declared.draws.Rng5.{Rng5}
use Rattle.std.specs.Prelude.{ℕ, ◌+◌, ◌*◌, ◌/◌, ◌%◌, ◌^◌}

-- the state after one step
unfoldable pub after : ℕ → ℕ
after source = (source * 0x5D588B656C078965 + 0x269EC3) % (2 ^ 64)

-- a number below the bound, from the state after the step: its upper half, as a part of 2^32, of the bound
unfoldable pub drawn : ℕ → ℕ → ℕ
drawn source bound = source / 2 ^ 32 * bound / 2 ^ 32

-- a word and the source after it: the upper half of the state after one step
unfoldable pub next_of : Rng5 → ℕ × Rng5
next_of source = (after source.x / 2 ^ 32, record { x = after source.x })
