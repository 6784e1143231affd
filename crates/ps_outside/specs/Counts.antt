-- Counts that rise by one, and when they do.
use Rattle.std.specs.Prelude.{◌≡◌, ◌==◌, ℕ, ◌+◌, ◌-◌, ◌^◌, ◌≤◌, min, Bool, List, Result, Ok, Err}
use Rattle.std.specs.List.{list_any}
use Rattle.ps_outside.specs.Causes.{Rose}

-- one more, or the last value of a u64
abbrev pub one_more : ℕ → ℕ
one_more count = min (count + 1) (2 ^ 64 - 1)

-- a count didn't fall, and rose or stands at its last value
pub record HasRisen (before now : ℕ) : Type 0 where
  pub later : before ≤ now
  pub rose : Rose before now

-- an error raises the count, and nothing else does
abbrev pub CountsErr : {T E : Type 0} → ℕ → ℕ → Result T E → Type 0
CountsErr before now (Ok value) = now ≡ before
CountsErr before now (Err error) = HasRisen before now

-- whether the call behind so many others is one of those that fail
abbrev pub is_listed : ℕ → List ℕ → Bool
is_listed calls failing = list_any (λ call. call == one_more calls) failing
