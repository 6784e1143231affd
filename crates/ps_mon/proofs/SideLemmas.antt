-- What holds of both sides holds of each.
use Rattle.std.proofs.Common.{ℕ, zero, suc, ◌<◌, arith}

pub each_side : (P : ℕ → Type 0) → P 0 → P 1 → (s : ℕ) → s < 2 → P s
each_side P one two zero h = one
each_side P one two (suc zero) h = two
each_side P one two (suc (suc s)) h = absurd (omega arith)
