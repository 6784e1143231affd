use Rattle.std.proofs.Common.{◌≡◌, length, rules}
use Rattle.ps_mon.specs.Orders.{with_order}
use Rattle.ps_mon.proofs.OrderLemmas.{order-sound, order-known, order-some, order-stand, order-foe}
use Rattle.ps_mon.proofs.record.Battle.set_order.Goals as goal

pub returns-clause-sound : goal.returns-clause-sound
unfolding with_order
returns-clause-sound c =
    let long : length c.args.numbers ≡ 6 = search rules in
    rw c.reorder.ensures (order-sound c.args.self.now c.args.side c.args.numbers c.requires.side long c.requires.order c.requires.sound)

pub returns-clause-known : goal.returns-clause-known
unfolding with_order
returns-clause-known c = λ moves known. rw c.reorder.ensures (order-known moves c.args.self.now c.args.side c.args.numbers c.requires.side c.requires.sound known)

pub returns-clause-some : goal.returns-clause-some
unfolding with_order
returns-clause-some c = rw c.reorder.ensures (order-some c.args.self.now c.args.side c.args.numbers c.requires.side c.requires.sound)

pub returns-clause-stand : goal.returns-clause-stand
unfolding with_order
returns-clause-stand c = rw c.reorder.ensures (order-stand c.args.self.now c.args.side c.args.numbers c.requires.side c.requires.sound)

pub returns-clause-foe : goal.returns-clause-foe
unfolding with_order
returns-clause-foe c = rw c.reorder.ensures (order-foe c.args.self.now c.args.side c.args.numbers c.requires.side)
