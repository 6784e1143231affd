-- Hidden places: what a battle holds that somebody wasn't shown.
use Rattle.std.specs.Prelude.{ℕ, Bool}

-- Which places are hidden: the members of the sides, by side and number, and the slots of these members, by side, member and
-- number. Of two battles that differ in them, `move` is what the first one has in a slot.
pub record Hidden : Type 0 where
  pub member : ℕ → ℕ → Bool
  pub slot : ℕ → ℕ → ℕ → Bool
  pub move : ℕ → ℕ → ℕ → ℕ
