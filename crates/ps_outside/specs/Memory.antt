-- What the versions in memory hold.
use Rattle.std.specs.Prelude.{ℕ, List}

-- the bytes that a source has left, how often it was called and has failed, and the calls that fail
pub record Input : Type 0 where
  pub left : List ℕ
  pub calls : ℕ
  pub faults : ℕ
  pub failing : List ℕ

-- the bytes that a sink was given, how often it was called and has failed, and the calls that fail
pub record Output : Type 0 where
  pub written : List ℕ
  pub calls : ℕ
  pub faults : ℕ
  pub failing : List ℕ
