-- Text on its way to a sink: for the code's buffer alone.
use Rattle.std.specs.Prelude.{◌≡◌, ℕ, List, ◌++◌, Option}
use Rattle.std.specs.Io.KnownBytes.{Appends}

-- a front of what waited was written, and the rest waits on
pub record MovesFront (old new : Option (List ℕ)) (before now : List ℕ) : Type 0 where
  pub front : List ℕ
  pub parts : before ≡ front ++ now
  pub grew : Appends old new front
