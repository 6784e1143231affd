use Rattle.std.proofs.Common.{◌++◌, Some, refl}
use Rattle.server_pass.proofs.ToldLemmas.{takes_leave}
use Rattle.server_pass.proofs.PassLemmas.{taken}
use Rattle.server_pass.proofs.pass.PlacePass+Pass+K+K+Cursor+N+I.try_turn.Goals as goal

pub returns-clause-of : goal.returns-clause-of
returns-clause-of g c = λ conn place of p. taken g.K.Kept.origin g.K.Kept.stands g.K.Kept.signer g.K.Kept.pulls g.K.Told.telling g.met.K.Told.tells conn place c.args.self.now _ (Some c.args.cmd)
    c.try_take.ensures.lock refl c.try_take.ensures.rest c.try_take.ensures.own of
    (takes_leave g.K.Kept.answers g.K.Kept.pulls c.args.self.now.pass.1 c.args.self.now.cursor (c.args.self.now.kept.items ++ c.args.self.now.fresh.items) c.args.cmd c.try_take.result _ _ _ c.try_take.ensures.does) p

pub returns-clause-grows : goal.returns-clause-grows
returns-clause-grows g c =
    (takes_leave g.K.Kept.answers g.K.Kept.pulls c.args.self.now.pass.1 c.args.self.now.cursor (c.args.self.now.kept.items ++ c.args.self.now.fresh.items) c.args.cmd c.try_take.result _ _ _ c.try_take.ensures.does).grows
