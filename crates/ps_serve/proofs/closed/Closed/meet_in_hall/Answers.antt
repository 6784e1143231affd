use Rattle.std.proofs.Common.{ap, is_some}
use Rattle.ps_serve.proofs.AgreeLemmas.{halls_agree}
use Rattle.ps_serve.proofs.closed.Closed.meet_in_hall.Goals as goal

pub meet_in_hall-requires : goal.meet_in_hall-requires
meet_in_hall-requires c = (c.requires.0 (ap is_some c.in-Some.is), c.requires.1 (ap is_some c.in-Some-hall.is))

pub returns-clause-agree : goal.returns-clause-agree
returns-clause-agree c = λ done.
    halls_agree c.args.hub.now c.args.self.now.passes c.meet_in_hall.new.passes c.args.other.now.passes c.meet_in_hall.new.other (c.requires.0 (ap is_some c.in-Some.is)) (c.requires.1 (ap is_some c.in-Some-hall.is)) c.meet_in_hall.ensures.met
