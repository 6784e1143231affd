use Rattle.std.proofs.Common.{◌≡◌, refl, sym, ap, subst, ◌∙◌}
use Rattle.ps_histlock.specs.declared.view.View.{View}
use Rattle.ps_histlock.specs.Seated.{TableId}
use Rattle.server_pass.specs.Passes.{Grows}
use Rattle.server_pass.specs.Turns.{Rereads}
use Rattle.server_pass.proofs.ToldLemmas.{rereads_none, grows_self}
use Rattle.server_pass.proofs.CatchLemmas.{on_err_given, on_err_then, if_ok_both, read_more, handed_on}
use Rattle.server_pass.proofs.pass.PlacePass+Pass+K+K+Cursor+N+I.hand_on.Goals as goal

pub returns-then-self-passed-clause-grows : goal.returns-then-self-passed-clause-grows
returns-then-self-passed-clause-grows g c =
    subst (λ (q : TableId × View g.row.K-Origin.Denot g.row.K-Cmd.Denot). Grows c.args.self.now.pass.1 q.1) (sym c.hand_out.ensures.same.0) (grows_self c.args.self.now.pass.1)

pub returns-then-self-passed-clause-ok : goal.returns-then-self-passed-clause-ok
returns-then-self-passed-clause-ok g c = if_ok_both _ _ _ c.hand_out.result c.hand_out.ensures.ok c.hand_out.ensures.at (λ msgs given end conn place p.
    handed_on g.K.Kept.origin g.K.Kept.stands g.K.Kept.signer g.K.Kept.pulls g.K.Told.telling conn place c.args.self.now c.args.self.now c.hand_out.new.self msgs.items p p (rereads_none c.args.self.now.pass.1) refl given c.hand_out.ensures.same.0
    (end ∙ ap (λ x. g.K.Told.telling.passed x) c.hand_out.ensures.same.1))

pub returns-in_err-read_up_to-clause-err : goal.returns-in_err-read_up_to-clause-err
returns-in_err-read_up_to-clause-err g c = on_err_given (Rereads c.args.self.now.pass.1 c.read_up_to.new.self.pass.1 × (c.read_up_to.new.self.at ≡ c.args.self.now.at)) c.from_residual.result
    (read_more g.K.Kept.origin g.K.Kept.stands g.K.Kept.signer g.K.Kept.pulls g.K.Told.telling c.args.self.now c.args.self.now c.read_up_to.new.self c.read_up_to.result (rereads_none c.args.self.now.pass.1) c.read_up_to.ensures.does, c.read_up_to.ensures.same.0)

pub returns-clause-ok : goal.returns-clause-ok
returns-clause-ok g c = if_ok_both _ _ _ c.hand_out-2.result c.hand_out-2.ensures.ok c.hand_out-2.ensures.at (λ msgs given end conn place p.
    handed_on g.K.Kept.origin g.K.Kept.stands g.K.Kept.signer g.K.Kept.pulls g.K.Told.telling conn place c.args.self.now c.read_up_to.new.self c.hand_out-2.new.self msgs.items p (c.read_up_to.ensures.of conn place p)
    (read_more g.K.Kept.origin g.K.Kept.stands g.K.Kept.signer g.K.Kept.pulls g.K.Told.telling c.args.self.now c.args.self.now c.read_up_to.new.self c.read_up_to.result (rereads_none c.args.self.now.pass.1) c.read_up_to.ensures.does)
    c.read_up_to.ensures.same.0 given c.hand_out-2.ensures.same.0 (end ∙ ap (λ x. g.K.Told.telling.passed x) c.hand_out-2.ensures.same.1))

pub returns-clause-err : goal.returns-clause-err
returns-clause-err g c = on_err_then _ _ c.hand_out-2.result c.hand_out-2.ensures.err (λ e. (
  subst (λ (s : TableId × View g.row.K-Origin.Denot g.row.K-Cmd.Denot). Rereads c.args.self.now.pass.1 s.1) (sym c.hand_out-2.ensures.same.0)
      (read_more g.K.Kept.origin g.K.Kept.stands g.K.Kept.signer g.K.Kept.pulls g.K.Told.telling c.args.self.now c.args.self.now c.read_up_to.new.self c.read_up_to.result (rereads_none c.args.self.now.pass.1) c.read_up_to.ensures.does),
  e.1 ∙ c.read_up_to.ensures.same.0,
))
