use Rattle.std.proofs.Common.{refl}
use Rattle.ps_hub.proofs.PassListLemmas.{hall_of}
use Rattle.ps_hub.proofs.OrderLemmas.{are_hall}
use Rattle.ps_hub.proofs.CallLemmas.{hall_quits, hall_quits_at_most}
use Rattle.ps_hub.proofs.hub.Hub.quit_hall.Goals as goal

pub returns-clause-of : goal.returns-clause-of
returns-clause-of g c = are_hall c.args.self.now c.args.passes.now _ c.in-Some.hall c.quit_by_hall_pass.new.pass c.requires c.in-Some.is refl
    (c.quit_by_hall_pass.ensures.of c.args.self.now (hall_of c.args.self.now c.args.passes.now c.in-Some.hall c.requires c.in-Some.is)) c.quit_by_hall_pass.ensures.adds refl refl

pub returns-clause-ok : goal.returns-clause-ok
returns-clause-ok g c = hall_quits c.args.passes.now.conn c.args.moment c.args.passes.now _ c.in-Some.hall c.quit_by_hall_pass.new.pass c.quit_by_hall_pass.result c.in-Some.is refl refl refl refl c.quit_by_hall_pass.ensures.ok

pub returns-clause-most : goal.returns-clause-most
returns-clause-most g c = hall_quits_at_most c.args.passes.now.conn c.args.moment c.args.passes.now _ c.in-Some.hall c.quit_by_hall_pass.new.pass c.quit_by_hall_pass.result c.in-Some.is refl refl refl refl c.quit_by_hall_pass.ensures.ok c.quit_by_hall_pass.ensures.err
