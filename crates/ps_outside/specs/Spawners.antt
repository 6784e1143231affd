-- What a spawner in memory holds.
use Rattle.std.specs.Prelude.{ℕ, List}

-- how often leave was asked and the count of faults, and the calls that fail
pub record Leaves : Type 0 where
  pub calls : ℕ
  pub faults : ℕ
  pub failing : List ℕ
