use Rattle.std.proofs.Common.{ap, ◌∙◌}
use Rattle.server_pass.proofs.CatchLemmas.{if_ok_both, caught}
use Rattle.server_pass.proofs.pass.PlacePass+Pass+K+K+Cursor+N+I.catch_up.Goals as goal

pub pull_up_to-requires-clause-of : goal.pull_up_to-requires-clause-of
pull_up_to-requires-clause-of g c = (c.requires.of.0, c.requires.of.1, c.look-shown.ensures.of c.requires.of.0 c.requires.of.1 c.requires.of.2)

pub returns-clause-ok : goal.returns-clause-ok
returns-clause-ok g c = if_ok_both _ _ _ c.hand_out.result c.hand_out.ensures.ok c.hand_out.ensures.at (λ msgs given end conn place p.
    caught g.K.Kept.origin g.K.Kept.stands g.K.Kept.signer g.K.Kept.pulls g.K.Told.telling conn place c.args.self.now c.look-shown.new.self c.pull_up_to.new.self c.hand_out.new.self c.look-shown.result msgs.items p
    (c.pull_up_to.ensures.of conn place (c.look-shown.ensures.of conn place p)) c.look-shown.ensures.does c.look-shown.ensures.seen c.look-shown.ensures.fresh
    c.pull_up_to.ensures.read c.pull_up_to.ensures.idle c.in_ok-pull_up_to.ensures.ok c.in_ok-pull_up_to.ensures.same.0 given c.hand_out.ensures.same.0
    (end ∙ ap (λ x. g.K.Told.telling.passed x) c.hand_out.ensures.same.1))
