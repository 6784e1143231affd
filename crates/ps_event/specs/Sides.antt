-- Side 0 is P1's, side 1 is P2's.
use Rattle.std.specs.Prelude.{ℕ}
use Rattle.ps_event.specs.declared.side.Side.{Side}
use Rattle.ps_event.specs.declared.side.Side.TheVariants.{P1, P2}

abbrev pub side_number : Side → ℕ
side_number P1 = 0
side_number P2 = 1
