use Rattle.std.proofs.Common.{subst}
use Rattle.server_places.specs.Halls.{HallHome, ReadsHall}
use Rattle.server_places.proofs.HallLemmas.{hall_pulled}
use Rattle.server_places.proofs.hall_place.HallPlaceKept.pull.Goals as goal

pub returns-clause-ok : goal.returns-clause-ok
returns-clause-ok c = λ log s.
    hall_pulled log c.args.self.now c.args.cursor.now c.read_on.new.cursor c.in_ok-msgs.msgs.items s
    (subst (λ (p : HallHome). ReadsHall p.hall p.count c.args.cursor.now c.in_ok-msgs.msgs.items c.read_on.new.cursor) c.self.view_is c.in_ok-msgs.ensures.piece)
