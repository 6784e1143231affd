use Rattle.std.proofs.Common.{sym}
use Rattle.ps_hall.proofs.LookupLemmas.{unrated}
use Rattle.ps_hall.proofs.lookup.rating_in.Goals as goal

pub returns-in-None : goal.returns-in-None
returns-in-None c = unrated c.args.ladders.now c.args.format.now c.args.user.now (rw c.as_str.ensures.value at (sym c.in-None.ensures))
