-- A set of clauses is a number; each clause has a bit of it.
use Rattle.std.specs.Prelude.{ℕ, Bool, not, ◌==◌, bit_and}

-- a set has a bit
abbrev pub has_clause : ℕ → ℕ → Bool
has_clause clauses bit = not (bit_and clauses bit == 0)
