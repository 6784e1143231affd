use Rattle.std.proofs.Common.{sym, ap, subst}
use Rattle.ps_histlock.specs.declared.view.View.{View}
use Rattle.ps_histlock.specs.Seated.{TableId}
use Rattle.server_pass.specs.Passes.{Grows}
use Rattle.server_pass.proofs.ToldLemmas.{grows_looked}
use Rattle.server_pass.proofs.PassLemmas.{looked}
use Rattle.server_pass.proofs.pass.PlacePass+Pass+K+K+Cursor+N+I.look.Goals as goal

pub returns-clause-of : goal.returns-clause-of
returns-clause-of g c = λ conn place p. looked g.K.Kept.origin g.K.Kept.stands g.K.Kept.signer g.K.Kept.pulls g.K.Told.telling g.met.K.Told.tells conn place c.args.self.now _ c.look.result
    (ap (λ q. record c.args.self.now { pass = q }) c.look.ensures.does) c.look.ensures.seen c.look.ensures.rises p

pub returns-clause-grows : goal.returns-clause-grows
returns-clause-grows g c = subst (λ (q : TableId × View g.row.K-Origin.Denot g.row.K-Cmd.Denot). Grows c.args.self.now.pass.1 q.1) (sym c.look.ensures.does)
    (grows_looked c.args.self.now.pass.1 c.look.result)
