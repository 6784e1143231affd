-- Blocks and open challenges.
use Rattle.std.specs.Prelude.{List, []}
use Rattle.std.specs.FinMap.{empty}
use Rattle.ps_base.specs.ById.{ById}
use Rattle.ps_pms.specs.declared.asked.Asked.{Asked}

-- by who blocks, the ids that it blocks; and the open challenges in the order in which they were made
pub record Record : Type 0 where
  pub blocks : ById (ById (Unit {0}))
  pub asked : List Asked

-- nobody blocks anybody, and nobody has challenged anybody
abbrev pub nothing : Record
nothing = record { blocks = empty; asked = [] }
