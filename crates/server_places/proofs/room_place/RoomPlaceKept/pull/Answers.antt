use Rattle.std.proofs.Common.{◌≡◌, Some, sym, ap, ◌∙◌, subst}
use Rattle.ps_room.specs.Logs.{Seen}
use Rattle.server_places.specs.Rooms.{Place, in_box, ReadsRoom}
use Rattle.server_places.proofs.StandLemmas.{pulled}
use Rattle.server_places.proofs.room_place.RoomPlaceKept.pull.Goals as goal

pub returns-in_ok-msgs-in-Some-clause-ok : goal.returns-in_ok-msgs-in-Some-clause-ok
returns-in_ok-msgs-in-Some-clause-ok c = λ log s.
    let room : c.args.self.now.room ≡ Some c.deref.result.now = ap (λ (p : Place). p.room) (sym c.self.view_is) ∙ ap in_box c.in-Some.is ∙ ap (λ (x : Seen). Some x) (sym c.deref.ensures) in
    pulled log c.args.self.now c.args.cursor.now c.read_on.new.cursor c.deref.result.now c.in_ok-msgs-in-Some.msgs.items s room
    (subst (λ (p : Place). ReadsRoom c.deref.result.now p.count p.plain c.args.cursor.now c.in_ok-msgs-in-Some.msgs.items c.read_on.new.cursor) c.self.view_is c.in_ok-msgs-in-Some.ensures.piece)
