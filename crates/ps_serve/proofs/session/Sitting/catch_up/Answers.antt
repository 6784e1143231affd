use Rattle.std.proofs.Common.{◌≤◌, length, refl, ◌∙◌, arith}
use Rattle.std.proofs.lemmas.Option.{IfSome_then}
use Rattle.ps_serve.proofs.CallLemmas.{if_none}
use Rattle.ps_serve.proofs.TellingRooms.{none_have_told, room_has_told, room_breaks_off, hall_breaks_off, all_have_told}
use Rattle.ps_serve.proofs.session.Sitting.catch_up.Goals as goal

pub loop-place-init : goal.loop-place-init
loop-place-init g c = (
  c.look_hall-shown.ensures.of,
  refl,
  c.look_hall-shown.ensures.does.badge,
  refl,
  refl,
  none_have_told c.args.hub.now c.args.self.now.session c.look_hall-shown.result c.args.self.now.passes c.look_hall-shown.new.passes (g.L.Link.talk c.args.link.now) c.look_hall-shown.ensures.does,
)

pub returns-in-Some-clause-broke : goal.returns-in-Some-clause-broke
returns-in-Some-clause-broke g c =
    let i = c.loop-place.invariant in
    room_breaks_off c.in-Some.end c.args.hub.now c.args.self.now.session c.look_hall-shown.result c.loop-place.place c.args.self.now.passes c.loop-place.self.passes c.tell_room.new.self.passes (g.L.Link.talk c.args.link.now) (g.L.Link.talk c.loop-place.link) (g.L.Link.talk c.tell_room.new.link) i.5 c.in-Some.ensures.of c.in-Some.ensures.broke

pub loop-place-preserved : goal.loop-place-preserved
loop-place-preserved g c =
    let i = c.loop-place.invariant in
    let e = c.in-None.ensures in (
      e.of,
      e.session ∙ i.1,
      e.badge ∙ i.2,
      e.pass_list ∙ i.3,
      e.counts ∙ i.4,
      room_has_told c.args.hub.now c.args.self.now.session c.look_hall-shown.result c.loop-place.place c.args.self.now.passes c.loop-place.self.passes c.tell_room.new.self.passes (g.L.Link.talk c.args.link.now) (g.L.Link.talk c.loop-place.link) (g.L.Link.talk c.tell_room.new.link) i.5 i.0 e.of e.told,
    )

pub returns-clause-told : goal.returns-clause-told
returns-clause-told g c =
    let i = c.loop-place.invariant in
    let size = i.3 in
    let end = c.len-place-end.ensures in
    let past : length c.loop-place.self.passes.rooms.items ≤ c.loop-place.place = omega arith in
    if_none c.tell_hall.result _ _ c.tell_hall.ensures.told
    (all_have_told c.args.hub.now c.args.self.now.session c.look_hall-shown.result c.loop-place.place c.args.self.now.passes c.loop-place.self.passes c.tell_hall.new.self.passes (g.L.Link.talk c.args.link.now) (g.L.Link.talk c.loop-place.link) (g.L.Link.talk c.tell_hall.new.link) i.5 i.0 c.tell_hall.ensures.of past)

pub returns-clause-broke : goal.returns-clause-broke
returns-clause-broke g c =
    let i = c.loop-place.invariant in
    let size = i.3 in
    let end = c.len-place-end.ensures in
    let past : length c.loop-place.self.passes.rooms.items ≤ c.loop-place.place = omega arith in
    IfSome_then c.tell_hall.result c.tell_hall.ensures.broke
    (λ end_is. hall_breaks_off end_is c.args.hub.now c.args.self.now.session c.look_hall-shown.result c.loop-place.place c.args.self.now.passes c.loop-place.self.passes c.tell_hall.new.self.passes (g.L.Link.talk c.args.link.now) (g.L.Link.talk c.loop-place.link) (g.L.Link.talk c.tell_hall.new.link) i.5 c.tell_hall.ensures.of past)
