use Rattle.std.proofs.Common.{refl, ◌∙◌}
use Rattle.ps_serve.proofs.CallLemmas.{passes_by}
use Rattle.ps_serve.proofs.PieceLemmas.{room_none, room_then, room_breaks_then, tells_held}
use Rattle.ps_serve.proofs.session.Sitting.tell_room.Goals as goal

pub returns-then-is_none-clause-told : goal.returns-then-is_none-clause-told
returns-then-is_none-clause-told g c =
    passes_by c.args.hub.now c.args.place c.args.self.now.passes c.index.result.now c.held_by.result (g.L.Link.talk c.args.link.now)
    (record { within = c.requires.there; at = c.index.ensures; is = c.held_by.ensures }) c.if-is_none.ensures

pub loop-init : goal.loop-init
loop-init g c = (tt, tt, c.look_at-shown.ensures.of, refl, refl, refl, refl, room_none c.args.hub.now c.args.place c.look_at-shown.result c.args.self.now.passes c.look_at-shown.new.passes (g.L.Link.talk c.args.link.now) c.look_at-shown.ensures.does c.look_at-shown.ensures.of)

pub loop-preserved : goal.loop-preserved
loop-preserved g c =
    let i = c.loop.invariant in
    let e = c.in-None-send_room.ensures in
    (tt, tt, e.of, e.session ∙ i.3, e.badge ∙ i.4, e.pass_list ∙ i.5, e.counts ∙ i.6, room_then c.args.hub.now c.args.place c.look_at-shown.new.passes c.loop.self.passes c.send_room.new.self.passes (g.L.Link.talk c.args.link.now) (g.L.Link.talk c.loop.link) (g.L.Link.talk c.send_room.new.link) i.7 e.told)

pub returns-then-shown-index-clause-told : goal.returns-then-shown-index-clause-told
returns-then-shown-index-clause-told g c =
    tells_held c.args.hub.now c.args.place c.look_at-shown.result c.args.self.now.passes c.look_at-shown.new.passes c.loop.self.passes c.index.result.now c.index-in-loop.result.now c.held_by.result (g.L.Link.talk c.args.link.now) (g.L.Link.talk c.loop.link)
    (record { read = record { within = c.requires.there; at = c.index.ensures; is = c.held_by.ensures }; some = c.if-is_none.ensures; look = c.look_at-shown.ensures.does }) c.loop.invariant.7 c.index-in-loop.ensures c.if-shown-index.true

pub returns-in-Some-send_room-clause-broke : goal.returns-in-Some-send_room-clause-broke
returns-in-Some-send_room-clause-broke g c =
    room_breaks_then c.args.hub.now c.args.place c.look_at-shown.result c.args.self.now.passes c.look_at-shown.new.passes c.loop.self.passes c.send_room.new.self.passes c.index.result.now c.held_by.result (g.L.Link.talk c.args.link.now) (g.L.Link.talk c.loop.link) (g.L.Link.talk c.send_room.new.link)
    (record { read = record { within = c.requires.there; at = c.index.ensures; is = c.held_by.ensures }; some = c.if-is_none.ensures; look = c.look_at-shown.ensures.does }) c.loop.invariant.7 c.in-Some-send_room.ensures.broke
