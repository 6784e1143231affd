use Rattle.ps_battle.proofs.KeepLemmas.{released-incoming}
use Rattle.ps_battle.proofs.switches.do_switch.Goals as goal

pub returns-in-Switch-clause-foe : goal.returns-in-Switch-clause-foe
returns-in-Switch-clause-foe c = λ choice. rw c.switch.ensures.foe (released-incoming _ choice)
