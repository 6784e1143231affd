use Rattle.std.proofs.Common.{ℕ, ◌<◌, subst, ◌∙◌}
use Rattle.server_pass.proofs.ToldLemmas.{grows_on}
use Rattle.server_pass.proofs.PassLemmas.{unbound}
use Rattle.server_pass.proofs.CatchLemmas.{still_idle, read_more}
use Rattle.server_pass.proofs.pass.PlacePass+Pass+K+K+Cursor+N+I.pull_up_to.Goals as goal

pub read_up_to-requires-clause-free : goal.read_up_to-requires-clause-free
read_up_to-requires-clause-free g c =
    let of = c.requires.of in unbound g.K.Kept.origin g.K.Kept.stands g.K.Kept.signer g.K.Kept.pulls g.K.Told.telling g.met.K.Told.tells of.0 of.1 c.loop.self (c.loop.invariant.3 of.0 of.1 of.2)

pub loop-preserved : goal.loop-preserved
loop-preserved g c =
    let i = c.loop.invariant in (
      tt,
      tt,
      c.read_up_to.ensures.lock ∙ i.2,
      λ conn place p. c.read_up_to.ensures.of conn place (i.3 conn place p),
      read_more g.K.Kept.origin g.K.Kept.stands g.K.Kept.signer g.K.Kept.pulls g.K.Told.telling c.args.self.now c.loop.self c.read_up_to.new.self c.read_up_to.result i.4 c.read_up_to.ensures.does,
      λ le. still_idle c.args.shown (λ q. g.K.Told.telling.passed q.cursor) c.args.self.now c.loop.self c.read_up_to.new.self i.5
          (subst (λ (n : ℕ). n < c.args.shown) c.passed.ensures c.if-shown-passed.false) le,
      c.read_up_to.ensures.same.0 ∙ i.6,
      c.read_up_to.ensures.same.1 ∙ i.7,
      c.read_up_to.ensures.same.2 ∙ i.8,
      grows_on c.args.self.now.pass.1 c.loop.self.pass.1 c.read_up_to.new.self.pass.1 i.9 c.read_up_to.ensures.grows,
    )

pub returns-in_err-read_up_to-clause-of : goal.returns-in_err-read_up_to-clause-of
returns-in_err-read_up_to-clause-of g c = λ conn place p. c.read_up_to.ensures.of conn place (c.loop.invariant.3 conn place p)

pub returns-in_err-read_up_to-clause-grows : goal.returns-in_err-read_up_to-clause-grows
returns-in_err-read_up_to-clause-grows g c = grows_on c.args.self.now.pass.1 c.loop.self.pass.1 c.read_up_to.new.self.pass.1 c.loop.invariant.9 c.read_up_to.ensures.grows

pub returns-in_err-read_up_to-clause-read : goal.returns-in_err-read_up_to-clause-read
returns-in_err-read_up_to-clause-read g c =
    read_more g.K.Kept.origin g.K.Kept.stands g.K.Kept.signer g.K.Kept.pulls g.K.Told.telling c.args.self.now c.loop.self c.read_up_to.new.self c.read_up_to.result c.loop.invariant.4 c.read_up_to.ensures.does
