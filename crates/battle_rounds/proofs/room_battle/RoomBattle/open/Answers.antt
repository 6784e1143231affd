use Rattle.battle_rounds.proofs.FigureLemmas.{known_figures}
use Rattle.battle_rounds.proofs.room_battle.RoomBattle.open.Goals as goal

pub open-bout-requires-clause-first_known : goal.open-bout-requires-clause-first_known
open-bout-requires-clause-first_known c = rw (c.facts.ensures.figures, known_figures, c.dex.ensures) c.requires.first_known

pub open-bout-requires-clause-second_known : goal.open-bout-requires-clause-second_known
open-bout-requires-clause-second_known c = rw (c.facts.ensures.figures, known_figures, c.dex.ensures) c.requires.second_known
