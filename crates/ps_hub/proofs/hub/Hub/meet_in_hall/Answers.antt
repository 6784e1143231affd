use Rattle.std.proofs.Common.{refl, sym, ◌∙◌}
use Rattle.ps_hub.specs.Hubs.{root_of}
use Rattle.ps_hub.proofs.PassListLemmas.{hall_of}
use Rattle.ps_hub.proofs.OrderLemmas.{are_hall}
use Rattle.server_pass.proofs.MeetLemmas.{adds_met}
use Rattle.ps_hub.proofs.hub.Hub.meet_in_hall.Goals as goal

pub meet-requires : goal.meet-requires
meet-requires c = (
  (hall_of c.args.self.now c.args.passes.now c.in-Some.one c.requires.0 c.in-Some.is).lock ∙ sym c.hall_lock.ensures.name,
  (hall_of c.args.self.now c.args.other.now c.in-Some-hall.another c.requires.1 c.in-Some-hall.is).lock ∙ sym c.hall_lock.ensures.name,
)

pub returns-clause-of : goal.returns-clause-of
returns-clause-of c = (
  are_hall c.args.self.now c.args.passes.now _ c.in-Some.one c.meet.new.self c.requires.0 c.in-Some.is refl (c.meet.ensures.of c.args.passes.now.conn (c.args.self.now.hall, root_of c.args.self.now) (hall_of c.args.self.now c.args.passes.now c.in-Some.one c.requires.0 c.in-Some.is))
      (adds_met c.in-Some.one.pass.1 c.meet.new.self.pass.1 c.meet.ensures.met.one) refl refl,
  are_hall c.args.self.now c.args.other.now _ c.in-Some-hall.another c.meet.new.other c.requires.1 c.in-Some-hall.is refl (c.meet.ensures.of_other c.args.other.now.conn (c.args.self.now.hall, root_of c.args.self.now) (hall_of c.args.self.now c.args.other.now c.in-Some-hall.another c.requires.1 c.in-Some-hall.is))
      (adds_met c.in-Some-hall.another.pass.1 c.meet.new.other.pass.1 c.meet.ensures.met.other) refl refl,
)

pub returns-clause-met : goal.returns-clause-met
returns-clause-met c = record {
  one = c.in-Some.one;
  one_after = c.meet.new.self;
  another = c.in-Some-hall.another;
  another_after = c.meet.new.other;
  was = c.in-Some.is;
  is = refl;
  other_was = c.in-Some-hall.is;
  other_is = refl;
  met = c.meet.ensures.met;
  heard = c.meet.ensures.heard.0;
  heard_back = c.meet.ensures.heard.1;
  same = c.meet.ensures.same;
  other_same = c.meet.ensures.same_other;
  rest = refl;
  other_rest = refl;
}
