use Rattle.std.proofs.Common.{arith}
use Rattle.ps_mon.proofs.KeepLemmas.{slot-known}
use Rattle.ps_battle.proofs.chosen.slot_move.Goals as goal

pub returns-clause-known : goal.returns-clause-known
returns-clause-known c = λ moves known.
    rw c.slot.ensures.value (slot-known moves c.args.side.now _ c.requires.side.shape known (omega arith))
