-- The ladder that a format has.
use Rattle.std.proofs.Common.{◌≡◌, ℕ, List, [], Option, Some, ap}
use Rattle.std.specs.Prelude.{unwrap_or}
use Rattle.std.specs.FinMap.{get}
use Rattle.ps_base.specs.ById.{ById}
use Rattle.ps_ladder.specs.Ratings.{Standing, standing_of}
use Rattle.ps_hall.specs.Lookups.{ladder_in}

pub of_found : (ladders : ById Standing) (format : List ℕ) (l : Standing) → Some l ≡ get ladders format → l ≡ ladder_in ladders format
of_found ladders format l is = ap (λ (o : Option Standing). unwrap_or o (standing_of [])) is
