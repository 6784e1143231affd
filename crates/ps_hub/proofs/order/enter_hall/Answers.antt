use Rattle.ps_hub.specs.Hubs.{root_of}
use Rattle.ps_hub.proofs.OfLemmas.{of_hall}
use Rattle.ps_hub.proofs.order.enter_hall.Goals as goal

pub returns-in-Done-clause-of : goal.returns-in-Done-clause-of
returns-in-Done-clause-of c = λ hub p. c.try_turn.ensures.of c.args.entry.conn (hub.hall, root_of hub) (of_hall c.args.entry.conn c.args.entry.moment c.args.entry.cmd) p

pub returns-in-NoMemory-clause-of : goal.returns-in-NoMemory-clause-of
returns-in-NoMemory-clause-of c = λ hub p. c.try_turn.ensures.of c.args.entry.conn (hub.hall, root_of hub) (of_hall c.args.entry.conn c.args.entry.moment c.args.entry.cmd) p

pub returns-in-Busy-clause-of : goal.returns-in-Busy-clause-of
returns-in-Busy-clause-of c = λ hub p. c.try_turn.ensures.of c.args.entry.conn (hub.hall, root_of hub) (of_hall c.args.entry.conn c.args.entry.moment c.args.entry.cmd) p

pub returns-in-OwnLimit-clause-of : goal.returns-in-OwnLimit-clause-of
returns-in-OwnLimit-clause-of c = λ hub p. c.try_turn.ensures.of c.args.entry.conn (hub.hall, root_of hub) (of_hall c.args.entry.conn c.args.entry.moment c.args.entry.cmd) p
