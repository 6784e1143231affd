use Rattle.std.proofs.Common.{List, ◌++◌, refl, ap, ◌∙◌}
use Rattle.ps_base.specs.declared.msg.Msg.{Msg}
use Rattle.server_pass.proofs.PassLemmas.{handed}
use Rattle.server_pass.proofs.pass.PlacePass+Pass+K+K+Cursor+N+I.hand_out.Goals as goal

pub returns-clause-of : goal.returns-clause-of
returns-clause-of g c = λ conn place p. handed g.K.Kept.origin g.K.Kept.stands g.K.Kept.signer g.K.Kept.pulls g.K.Told.telling g.met.K.Told.tells conn place c.args.self.now _ refl refl
    (ap (λ (l : List Msg). l ++ c.hand_out.new.fresh.items) c.in_ok-msgs.ensures.ok.1 ∙ c.in_ok-msgs.ensures.ok.2) c.passed-self.ensures p
