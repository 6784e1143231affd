use Rattle.std.proofs.Common.{◌+◌, ap, ◌∙◌}
use Rattle.server_places.specs.Rooms.{Place}
use Rattle.server_places.proofs.StandLemmas.{begun, played, unanswered, answered}
use Rattle.server_places.proofs.room_place.RoomPlaceKept.apply.Goals as goal
use Rattle.server_places.proofs.room_place.RoomPlaceKept.apply.Goals.{in-Begin+in_ok-begin-in-Begin, in-Play+in_ok-out-in-Play}

pub returns-clause-entry : goal.returns-clause-entry
returns-clause-entry c = λ log s.
    elim c.match-cmd-3.branch [
      | in-Begin+in_ok-begin-in-Begin w ↦ begun log c.args.cmd w.in-Begin.start c.args.self.now w.begin.new.self _ w.in-Begin.is (c.self-2.view_is ∙ w.self-is ∙ ap (λ (p : Place). record p { plain = p.count + 1 }) w.self-in-Begin.view_is) s w.in_ok-begin-in-Begin.ensures.ok
      | in-Play+in_ok-out-in-Play w ↦ played log c.args.cmd w.in-Play.entry c.args.self.now w.play.new.self _ w.in-Play.is (c.self-2.view_is ∙ w.self-is) s w.in_ok-out-in-Play.ensures.ok
    ]

pub returns-clause-answer : goal.returns-clause-answer
returns-clause-answer c = λ log s.
    elim c.match-cmd-3.branch [
      | in-Begin+in_ok-begin-in-Begin w ↦ unanswered log c.args.cmd w.in-Begin.start c.args.self.now c.match-cmd-3.out w.in-Begin.is w.out-is s
      | in-Play+in_ok-out-in-Play w ↦ answered log c.args.cmd w.in-Play.entry c.args.self.now w.in_ok-out-in-Play.out c.match-cmd-3.out w.in-Play.is w.out-is w.in_ok-out-in-Play.ensures.out s
    ]
