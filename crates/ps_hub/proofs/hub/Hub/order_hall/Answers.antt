use Rattle.std.proofs.Common.{refl}
use Rattle.ps_hub.proofs.PassListLemmas.{hall_of, speaks_of}
use Rattle.ps_hub.proofs.OrderLemmas.{are_hall, hall_ordered, hall_failed, hall_untried}
use Rattle.ps_hub.proofs.hub.Hub.order_hall.Goals as goal

pub returns-in_default-clause-does : goal.returns-in_default-clause-does
returns-in_default-clause-does c = hall_untried c.args.self.now c.args.cmd c.args.moment c.args.passes.now c.requires

pub enter_hall-requires-clause-signs : goal.enter_hall-requires-clause-signs
enter_hall-requires-clause-signs c =
    ((hall_of c.args.self.now c.args.passes.now c.in-Some.hall c.requires c.in-Some.is).signs, speaks_of c.args.self.now c.args.passes.now c.in-Some.hall c.requires c.in-Some.is)

pub returns-in-Err-clause-of : goal.returns-in-Err-clause-of
returns-in-Err-clause-of c = are_hall c.args.self.now c.args.passes.now _ c.in-Some.hall c.enter_hall.new.pass c.requires c.in-Some.is refl (c.enter_hall.ensures.of c.args.self.now (hall_of c.args.self.now c.args.passes.now c.in-Some.hall c.requires c.in-Some.is)) c.enter_hall.ensures.adds refl refl

pub returns-in-Err-clause-does : goal.returns-in-Err-clause-does
returns-in-Err-clause-does c = hall_failed c.args.self.now c.args.cmd c.args.moment c.args.passes.now _ c.in-Some.hall c.enter_hall.new.pass c.in-Err.fault (hall_of c.args.self.now c.args.passes.now c.in-Some.hall c.requires c.in-Some.is) c.in-Some.is refl c.enter_hall.ensures.at refl refl refl c.in-Err.ensures.does

pub returns-clause-of : goal.returns-clause-of
returns-clause-of c = are_hall c.args.self.now c.args.passes.now _ c.in-Some.hall c.enter_hall.new.pass c.requires c.in-Some.is refl (c.enter_hall.ensures.of c.args.self.now (hall_of c.args.self.now c.args.passes.now c.in-Some.hall c.requires c.in-Some.is)) c.enter_hall.ensures.adds refl refl

pub returns-clause-does : goal.returns-clause-does
returns-clause-does c = hall_ordered c.args.self.now c.args.cmd c.args.moment c.args.passes.now _ c.in-Some.hall c.enter_hall.new.pass c.in-Ok-enter_hall.gave _ (hall_of c.args.self.now c.args.passes.now c.in-Some.hall c.requires c.in-Some.is) c.in-Some.is refl c.enter_hall.ensures.at refl refl c.keep_badge.ensures refl c.in-Ok-enter_hall.ensures.does
