-- What is in range in each set of a team.
use Rattle.std.specs.Prelude.{◌≤◌, length, All}
use Rattle.ps_packed.specs.declared.set.Set.{Set}

pub record HasRanges (set : Set) : Type 0 where
  pub level_low : 1 ≤ set.level
  pub level_high : set.level ≤ 100
  pub few_moves : length set.moves ≤ 4
  pub ivs_small : All (λ iv. iv ≤ 31) set.ivs
