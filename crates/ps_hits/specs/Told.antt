-- What events tell of a fighter.
use Rattle.std.specs.Prelude.{ℕ, zero, suc}
use Rattle.ps_event.specs.declared.side.Side.{Side}
use Rattle.ps_event.specs.declared.side.Side.TheVariants.{P1, P2}
use Rattle.ps_event.specs.declared.event.Who.{Who}
use Rattle.ps_event.specs.declared.event.Health.{Health}
use Rattle.ps_mon.specs.declared.status.Status.{Status}
use Rattle.ps_mon.specs.declared.status.Status.TheVariants.{Healthy, Slp, Par, Brn, Psn, Tox, Frz}
use Rattle.ps_mon.specs.declared.duel.Fighter.{Fighter}

-- side 0 is P1's, side 1 is P2's
abbrev pub side_name : ℕ → Side
side_name zero = P1
side_name (suc side) = P2

abbrev pub who_of : Fighter → Who
who_of fighter = record { side = side_name fighter.side; member = fighter.member }

abbrev pub status_number : Status → ℕ
status_number Healthy = 0
status_number Slp = 1
status_number Par = 2
status_number Brn = 3
status_number Psn = 4
status_number Tox = 5
status_number Frz = 6

abbrev pub health_of : Fighter → Health
health_of fighter = record { hp = fighter.hp; max = fighter.max; status = status_number fighter.status }
