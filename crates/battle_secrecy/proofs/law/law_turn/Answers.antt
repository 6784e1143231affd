use Rattle.battle_secrecy.proofs.TurnLemmas.{turn_alike}
use Rattle.battle_secrecy.proofs.law.law_turn.Goals as goal

pub returns : goal.returns
returns c = turn_alike
