use Rattle.ps_room.proofs.UnseenLemmas.{notes_are_unseen}
use Rattle.ps_room.proofs.law.law_of_notes.Goals as goal

pub returns : goal.returns
returns c = notes_are_unseen
