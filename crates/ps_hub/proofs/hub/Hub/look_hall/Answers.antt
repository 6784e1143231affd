use Rattle.std.proofs.Common.{refl}
use Rattle.ps_hub.specs.Hubs.{root_of}
use Rattle.ps_hub.proofs.PassListLemmas.{hall_of}
use Rattle.ps_hub.proofs.OrderLemmas.{are_hall}
use Rattle.ps_hub.proofs.hub.Hub.look_hall.Goals as goal

pub returns-clause-of : goal.returns-clause-of
returns-clause-of c = are_hall c.args.self.now c.args.passes.now _ c.in-Some.hall c.look.new.self c.requires c.in-Some.is refl (c.look.ensures.of c.args.passes.now.conn (c.args.self.now.hall, root_of c.args.self.now) (hall_of c.args.self.now c.args.passes.now c.in-Some.hall c.requires c.in-Some.is)) c.look.ensures.grows.adds refl refl

pub returns-clause-does : goal.returns-clause-does
returns-clause-does c = record { before = c.in-Some.hall; behind = c.look.new.self; was = c.in-Some.is; is = refl; done = (c.look.ensures.seen, c.look.ensures.does, c.look.ensures.fresh); rooms = refl; conn = refl; badge = refl }
