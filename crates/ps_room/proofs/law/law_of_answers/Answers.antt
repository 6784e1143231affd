use Rattle.ps_room.proofs.AnswerLemmas.{answered}
use Rattle.ps_room.proofs.law.law_of_answers.Goals as goal

pub returns : goal.returns
returns c = answered
