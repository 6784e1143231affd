use Rattle.std.proofs.Common.{◌≡◌, Result, Ok, IfOk, IfErr, subst}
use Rattle.ps_lines.specs.declared.order.Order.{Order}
use Rattle.ps_session.specs.Routes.{IsTakeFault}
use Rattle.ps_session.specs.declared.session.TakeFault.{TakeFault}
use Rattle.ps_session.proofs.ReadLemmas.{taken_is}
use Rattle.ps_session.proofs.session.Session.take_clean.Goals as goal

pub returns-clause-order : goal.returns-clause-order
returns-clause-order c =
    let is = taken_is c.args.self.now c.args.text.now c.read_clean_client.result c.in_ok-order.order c.read_clean_client.ensures.message c.read_clean_client.ensures.fault c.in_ok-order.ensures.value in
    subst (λ (t : Result Order TakeFault). IfOk c.take_order.result (λ o. t ≡ Ok o)) is c.take_order.ensures.order

pub returns-clause-fault : goal.returns-clause-fault
returns-clause-fault c =
    let is = taken_is c.args.self.now c.args.text.now c.read_clean_client.result c.in_ok-order.order c.read_clean_client.ensures.message c.read_clean_client.ensures.fault c.in_ok-order.ensures.value in
    subst (λ (t : Result Order TakeFault). IfErr c.take_order.result (λ f. IsTakeFault f t)) is c.take_order.ensures.fault
