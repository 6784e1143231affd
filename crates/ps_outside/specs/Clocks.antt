-- The moments that a clock tells: the first, and those after it; the last is told again and again.
use Rattle.std.specs.Prelude.{◌≡◌, ℕ, zero, suc, List, [], ◌∷◌, Option, Some, None}

-- the moment that is told next
abbrev pub now_of : ℕ × List ℕ → ℕ
now_of hours = hours.0

-- the moments that are left after one was told
abbrev pub later : ℕ × List ℕ → ℕ × List ℕ
later (moment, []) = (moment, [])
later (moment, next ∷ rest) = (next, rest)

-- the moments that are left after so many were told
abbrev pub after_calls : ℕ × List ℕ → ℕ → ℕ × List ℕ
after_calls hours zero = hours
after_calls hours (suc calls) = after_calls (later hours) calls

-- the moment that is told after so many others
abbrev pub moment_at : ℕ × List ℕ → ℕ → ℕ
moment_at hours calls = now_of (after_calls hours calls)

-- where the moments are known, the first of them
abbrev pub IsNow : Option (ℕ × List ℕ) → ℕ → Type 0
IsNow None moment = Unit {0}
IsNow (Some hours) moment = moment ≡ now_of hours

-- what a call leaves, where the moments are known
abbrev pub after_now : Option (ℕ × List ℕ) → Option (ℕ × List ℕ)
after_now None = None
after_now (Some hours) = Some (later hours)
