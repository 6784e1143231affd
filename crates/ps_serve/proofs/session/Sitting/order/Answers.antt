use Rattle.std.proofs.Common.{inl, inr, ◌∙◌, sym, subst}
use Rattle.ps_lines.specs.declared.order.Order.{Order}
use Rattle.ps_hub.specs.Calls.{NeedsBadge}
use Rattle.ps_serve.proofs.OrderLemmas.{at_last, back_is, badge_stays, taken_short, tried_more}
use Rattle.ps_serve.proofs.session.Sitting.order.Goals as goal

pub returns-in-Ok-clause-made : goal.returns-in-Ok-clause-made
returns-in-Ok-clause-made g c =
    let i = c.loop.invariant in
    at_last c.args.hub.now c.loop.left c.args.order c.args.moment c.args.self.now.passes c.loop.self.passes _ c.order.new.passes i.2 i.6.0 i.6.1 c.in-Ok.ensures.does

pub loop-preserved : goal.loop-preserved
loop-preserved g c =
    let i = c.loop.invariant in
    let told = rw c.in-Err-Busy.field-0-is at c.in-Err-Busy.ensures.does in
    let back = back_is c.args.hub.now c.loop.left c.args.moment c.loop.self.passes _ c.in-Err-Busy.order c.order.new.passes told in (
      tt,
      tt,
      back ∙ i.2,
      c.in-Err-Busy.ensures.of,
      subst (λ (o : Order). NeedsBadge o c.order.new.passes) (sym back) (badge_stays c.args.hub.now c.loop.left c.args.moment c.loop.self.passes _ c.in-Err-Busy.order c.order.new.passes told i.4),
      i.5,
      tried_more c.args.hub.now c.args.order c.args.moment i.6.0 c.args.self.now.passes c.loop.self.passes _ c.in-Err-Busy.order c.order.new.passes i.6.1 (rw i.2 at told),
    )

pub returns-in-Err-NoSuchRoom-clause-made : goal.returns-in-Err-NoSuchRoom-clause-made
returns-in-Err-NoSuchRoom-clause-made g c =
    let i = c.loop.invariant in
    at_last c.args.hub.now c.loop.left c.args.order c.args.moment c.args.self.now.passes c.loop.self.passes _ c.order.new.passes i.2 i.6.0 i.6.1 (rw c.in-Err-NoSuchRoom.field-0-is at c.in-Err-NoSuchRoom.ensures.does)

pub returns-in-Err-OwnLimit-clause-made : goal.returns-in-Err-OwnLimit-clause-made
returns-in-Err-OwnLimit-clause-made g c =
    let i = c.loop.invariant in
    inr (_, at_last c.args.hub.now c.loop.left c.args.order c.args.moment c.args.self.now.passes c.loop.self.passes _ c.order.new.passes i.2 i.6.0 i.6.1 (rw c.in-Err-OwnLimit.field-0-is at c.in-Err-OwnLimit.ensures.does))

pub returns-in-Err-NoMemory-clause-made : goal.returns-in-Err-NoMemory-clause-made
returns-in-Err-NoMemory-clause-made g c =
    let i = c.loop.invariant in
    inl (at_last c.args.hub.now c.loop.left c.args.order c.args.moment c.args.self.now.passes c.loop.self.passes _ c.order.new.passes i.2 i.6.0 i.6.1 (rw c.in-Err-NoMemory.field-0-is at c.in-Err-NoMemory.ensures.does))

pub returns-in-Err-Taken-clause-made : goal.returns-in-Err-Taken-clause-made
returns-in-Err-Taken-clause-made g c =
    let i = c.loop.invariant in
    inl (at_last c.args.hub.now c.loop.left c.args.order c.args.moment c.args.self.now.passes c.loop.self.passes _ c.order.new.passes i.2 i.6.0 i.6.1
    (taken_short c.args.hub.now c.loop.left c.args.moment c.loop.self.passes c.order.new.passes (rw c.in-Err-Taken.field-0-is at c.in-Err-Taken.ensures.does)))
