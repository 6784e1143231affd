use Rattle.std.proofs.lemmas.Option.{IfSome_then}
use Rattle.ps_serve.proofs.CallLemmas.{if_none}
use Rattle.ps_serve.proofs.PieceLemmas.{room_fails, sends_room, sends_of_room}
use Rattle.ps_serve.proofs.session.Sitting.send_room.Goals as goal

pub returns-in-Err-clause-broke : goal.returns-in-Err-clause-broke
returns-in-Err-clause-broke g c = room_fails c.args.hub.now c.args.place c.args.self.now.passes c.hand_on_at.new.passes (g.L.Link.talk c.args.link.now) c.requires.of c.in-Err.ensures.does

pub returns-in-Ok-clause-told : goal.returns-in-Ok-clause-told
returns-in-Ok-clause-told g c =
    if_none c.send_msgs.result _ _ c.send_msgs.ensures.told
    (sends_room c.args.hub.now c.args.place c.args.self.now.passes c.hand_on_at.new.passes c.index.result.now c.held_by-room.result c.in-Ok.msgs.items c.as_slice.result.now (g.L.Link.talk c.args.link.now) (g.L.Link.talk c.send_msgs.new.link) c.in-Ok.ensures.does
    (record { within = c.requires.there; at = c.index.ensures; is = c.held_by-room.ensures; lent_is = c.as_slice.ensures.value }))

pub returns-in-Ok-clause-broke : goal.returns-in-Ok-clause-broke
returns-in-Ok-clause-broke g c =
    IfSome_then c.send_msgs.result c.send_msgs.ensures.broke (λ end.
    sends_of_room c.args.hub.now c.args.place c.args.self.now.passes c.hand_on_at.new.passes c.index.result.now c.held_by-room.result c.in-Ok.msgs.items c.as_slice.result.now (g.L.Link.talk c.args.link.now) (g.L.Link.talk c.send_msgs.new.link) c.in-Ok.ensures.does
    (record { within = c.requires.there; at = c.index.ensures; is = c.held_by-room.ensures; lent_is = c.as_slice.ensures.value }))
