use Rattle.std.proofs.Common.{[], ◌∷◌, ◌++◌, sym, subst}
use Rattle.ps_histlock.specs.Locks.{HasSigned}
use Rattle.ps_histlock.specs.Histories.{entry}
use Rattle.ps_histlock.proofs.SignLemmas.{signed_still, signed_now}
use Rattle.ps_histlock.proofs.lock.signs_with.Goals as goal

pub returns-then-has_signed : goal.returns-then-has_signed
returns-then-has_signed g c = λ by said has. signed_still g.K.Kept.signer by said c.args.cmd.now (subst (λ b. HasSigned g.K.Kept.signer b said) c.if-has_signed.true has)

pub returns : goal.returns
returns g c = λ by said has.
    subst (λ b. HasSigned g.K.Kept.signer b (said ++ entry by c.args.cmd.now ∷ [])) (sym c.is_some.ensures)
    (signed_now g.K.Kept.signer by said c.args.cmd.now c.signed_by.result (sym c.signed_by.ensures) (subst (λ b. HasSigned g.K.Kept.signer b said) c.if-has_signed.false has))
