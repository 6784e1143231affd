use Rattle.std.proofs.Common.{◌++◌, Some, refl}
use Rattle.server_pass.proofs.ToldLemmas.{takes_leave_at_last}
use Rattle.server_pass.proofs.PassLemmas.{taken}
use Rattle.server_pass.proofs.pass.PlacePass+Pass+K+K+Cursor+N+I.turn.Goals as goal

pub returns-clause-of : goal.returns-clause-of
returns-clause-of g c = λ conn place of p. taken g.K.Kept.origin g.K.Kept.stands g.K.Kept.signer g.K.Kept.pulls g.K.Told.telling g.met.K.Told.tells conn place c.args.self.now _ (Some c.args.cmd)
    c.take.ensures.lock refl c.take.ensures.rest c.take.ensures.own of
    (takes_leave_at_last g.K.Kept.answers g.K.Kept.pulls c.args.self.now.pass.1 c.args.self.now.cursor (c.args.self.now.kept.items ++ c.args.self.now.fresh.items) c.args.cmd c.take.result _ _ _ c.take.ensures.does) p

pub returns-clause-grows : goal.returns-clause-grows
returns-clause-grows g c =
    (takes_leave_at_last g.K.Kept.answers g.K.Kept.pulls c.args.self.now.pass.1 c.args.self.now.cursor (c.args.self.now.kept.items ++ c.args.self.now.fresh.items) c.args.cmd c.take.result _ _ _ c.take.ensures.does).grows
