use Rattle.ps_room.proofs.PullLemmas.{are_rooms}
use Rattle.ps_room.proofs.law.law_of_histories.Goals as goal

pub returns : goal.returns
returns c = are_rooms
