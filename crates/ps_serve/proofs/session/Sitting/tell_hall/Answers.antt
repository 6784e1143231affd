use Rattle.std.proofs.Common.{refl, ◌∙◌}
use Rattle.ps_serve.proofs.PieceLemmas.{hall_none, hall_then, hall_breaks_then, hall_answers}
use Rattle.ps_serve.proofs.session.Sitting.tell_hall.Goals as goal

pub loop-init : goal.loop-init
loop-init g c = (tt, tt, c.requires, refl, refl, refl, hall_none c.args.hub.now c.args.self.now.passes (g.L.Link.talk c.args.link.now) c.requires)

pub loop-preserved : goal.loop-preserved
loop-preserved g c =
    let i = c.loop.invariant in
    let e = c.in-None-send_hall.ensures in
    (tt, tt, e.of, e.session ∙ i.3, e.badge ∙ i.4, e.counts ∙ i.5, hall_then c.args.hub.now c.args.self.now.passes c.loop.self.passes c.send_hall.new.self.passes (g.L.Link.talk c.args.link.now) (g.L.Link.talk c.loop.link) (g.L.Link.talk c.send_hall.new.link) i.6 e.told)

pub returns-then-shown-handed_out-clause-told : goal.returns-then-shown-handed_out-clause-told
returns-then-shown-handed_out-clause-told g c = hall_answers c.args.hub.now c.args.shown c.handed_out.result c.args.self.now.passes c.loop.self.passes (g.L.Link.talk c.args.link.now) (g.L.Link.talk c.loop.link) c.loop.invariant.6 c.handed_out.ensures c.if-shown-handed_out.true

pub returns-in-Some-send_hall-clause-broke : goal.returns-in-Some-send_hall-clause-broke
returns-in-Some-send_hall-clause-broke g c = hall_breaks_then c.args.hub.now c.args.self.now.passes c.loop.self.passes c.send_hall.new.self.passes (g.L.Link.talk c.args.link.now) (g.L.Link.talk c.loop.link) (g.L.Link.talk c.send_hall.new.link) c.loop.invariant.6 c.in-Some-send_hall.ensures.broke
