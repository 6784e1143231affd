use Rattle.std.proofs.Common.{ap}
use Rattle.ps_mon.specs.declared.record.Battle.{Battle}
use Rattle.ps_mon.specs.Orders.{with_order}
use Rattle.ps_battle.proofs.turns.place.Goals as goal

pub returns-in-Team-clause-turn : goal.returns-in-Team-clause-turn
unfolding with_order
returns-in-Team-clause-turn c = ap (λ (b : Battle). b.turn) c.set_order.ensures.value
