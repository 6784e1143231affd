use Rattle.std.proofs.Common.{refl, ap, ◌∙◌}
use Rattle.ps_histlock.specs.declared.view.View.{View}
use Rattle.ps_histlock.specs.Seated.{TableId}
use Rattle.server_pass.proofs.MeetLemmas.{passes_met, signs_known, both_heard, met}
use Rattle.server_pass.proofs.pass.PlacePass+Pass+K+K+Cursor+N+I.meet.Goals as goal

pub meet-requires : goal.meet-requires
meet-requires g c = (ap (λ (q : TableId × View g.row.K-Origin.Denot g.row.K-Cmd.Denot). q.0) c.differ.ensures.pass ∙ c.requires.0, ap (λ (q : TableId × View g.row.K-Origin.Denot g.row.K-Cmd.Denot). q.0) c.differ.ensures.other.1 ∙ c.requires.1)

pub returns-clause-met : goal.returns-clause-met
returns-clause-met g c = passes_met g.K.Kept.signer c.args.self.now.pass c.differ.new.pass c.meet.new.pass c.args.other.now.pass c.differ.new.other c.meet.new.other c.differ.ensures.pass c.differ.ensures.other
    c.differ.ensures.two c.meet.ensures.pass c.meet.ensures.other c.meet.ensures.one c.meet.ensures.one_list c.meet.ensures.own c.meet.ensures.signed

pub returns-clause-heard : goal.returns-clause-heard
returns-clause-heard g c =
    both_heard g.K.Kept.signer c.args.self.now.pass.1 c.meet.new.pass.1 c.args.other.now.pass.1 c.meet.new.other.1 (returns-clause-met g c) (c.meet.ensures.rest.0.5, c.meet.ensures.rest.1.5)

pub returns-clause-of : goal.returns-clause-of
returns-clause-of g c = λ conn place p. met g.K.Kept.origin g.K.Kept.stands g.K.Kept.signer g.K.Kept.pulls g.K.Told.telling g.met.K.Told.tells conn place c.args.self.now _ refl
    (ap (λ (q : TableId × View g.row.K-Origin.Denot g.row.K-Cmd.Denot). q.0) c.meet.ensures.pass ∙ ap (λ (q : TableId × View g.row.K-Origin.Denot g.row.K-Cmd.Denot). q.0) c.differ.ensures.pass)
    (returns-clause-met g c).one c.meet.ensures.rest.0 c.meet.ensures.signed.0 p

pub returns-clause-of_other : goal.returns-clause-of_other
returns-clause-of_other g c = λ conn place p. met g.K.Kept.origin g.K.Kept.stands g.K.Kept.signer g.K.Kept.pulls g.K.Told.telling g.met.K.Told.tells conn place c.args.other.now _ refl
    (ap (λ (q : TableId × View g.row.K-Origin.Denot g.row.K-Cmd.Denot). q.0) c.meet.ensures.other ∙ ap (λ (q : TableId × View g.row.K-Origin.Denot g.row.K-Cmd.Denot). q.0) c.differ.ensures.other.1)
    (returns-clause-met g c).other c.meet.ensures.rest.1
    (signs_known g.K.Kept.signer c.args.self.now.pass.1 c.meet.new.pass.1 c.args.other.now.pass.1 c.meet.new.other.1 (returns-clause-met g c) c.meet.ensures.signed.1) p
