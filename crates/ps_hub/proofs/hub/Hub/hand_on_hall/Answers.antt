use Rattle.std.proofs.Common.{refl}
use Rattle.ps_hub.specs.Hubs.{root_of}
use Rattle.ps_hub.proofs.PassListLemmas.{hall_of}
use Rattle.ps_hub.proofs.OrderLemmas.{are_hall}
use Rattle.ps_hub.proofs.CallLemmas.{handed_hall}
use Rattle.ps_hub.proofs.hub.Hub.hand_on_hall.Goals as goal

pub returns-clause-of : goal.returns-clause-of
returns-clause-of g c = are_hall c.args.self.now c.args.passes.now _ c.in-Some.hall c.hand_on.new.self c.requires c.in-Some.is refl (c.hand_on.ensures.of c.args.passes.now.conn (c.args.self.now.hall, root_of c.args.self.now) (hall_of c.args.self.now c.args.passes.now c.in-Some.hall c.requires c.in-Some.is)) c.hand_on.ensures.grows.adds refl refl

pub returns-clause-does : goal.returns-clause-does
returns-clause-does g c = handed_hall c.args.self.now c.args.passes.now _ c.in-Some.hall c.hand_on.new.self c.hand_on.result (hall_of c.args.self.now c.args.passes.now c.in-Some.hall c.requires c.in-Some.is) c.in-Some.is refl refl refl refl c.hand_on.ensures.ok c.hand_on.ensures.err
