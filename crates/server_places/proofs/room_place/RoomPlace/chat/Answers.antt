use Rattle.std.proofs.Common.{Some, refl, ap, ◌∙◌}
use Rattle.ps_room.specs.Openings.{Opening}
use Rattle.ps_room.specs.Logs.{Seen, seen_opened}
use Rattle.server_places.proofs.StandLemmas.{chat_stands}
use Rattle.server_places.proofs.room_place.RoomPlace.chat.Goals as goal

pub returns-clause-stands : goal.returns-clause-stands
returns-clause-stands c = chat_stands _ _ c.requires (ap (λ (s : Seen). Some s) (c.in_ok-room.ensures.ok ∙ c.in_ok-new.ensures ∙ ap (λ (o : Opening). seen_opened o) c.in_ok-opening.ensures)) refl refl
