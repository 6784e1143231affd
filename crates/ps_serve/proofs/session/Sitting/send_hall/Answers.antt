use Rattle.ps_serve.proofs.PieceLemmas.{hall_fails}
use Rattle.ps_serve.proofs.session.Sitting.send_hall.Goals as goal

pub returns-in-Err-clause-broke : goal.returns-in-Err-clause-broke
returns-in-Err-clause-broke g c = hall_fails c.args.hub.now c.args.self.now.passes c.hand_on_hall.new.passes (g.L.Link.talk c.args.link.now) c.requires c.in-Err.ensures.does
