use Rattle.std.proofs.Common.{◌++◌, None, refl}
use Rattle.server_pass.proofs.ToldLemmas.{reads_leave}
use Rattle.server_pass.proofs.PassLemmas.{taken}
use Rattle.server_pass.proofs.pass.PlacePass+Pass+K+K+Cursor+N+I.try_read.Goals as goal

pub returns-clause-of : goal.returns-clause-of
returns-clause-of g c = λ conn place p. taken g.K.Kept.origin g.K.Kept.stands g.K.Kept.signer g.K.Kept.pulls g.K.Told.telling g.met.K.Told.tells conn place c.args.self.now _ None
    c.try_read.ensures.lock refl c.try_read.ensures.rest c.try_read.ensures.own tt
    (reads_leave g.K.Kept.pulls c.args.self.now.pass.1 c.args.self.now.cursor (c.args.self.now.kept.items ++ c.args.self.now.fresh.items) c.try_read.result _ _ _ c.try_read.ensures.does) p

pub returns-clause-grows : goal.returns-clause-grows
returns-clause-grows g c = (reads_leave g.K.Kept.pulls c.args.self.now.pass.1 c.args.self.now.cursor (c.args.self.now.kept.items ++ c.args.self.now.fresh.items) c.try_read.result _ _ _ c.try_read.ensures.does).grows
