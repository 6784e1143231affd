use Rattle.std.proofs.Common.{refl, sym, ap, arith, ◌∙◌, ◌∷◌, Some}
use Rattle.atomic_table.specs.Table.{rest}
use Rattle.ps_histlock.specs.Homes.{home_origin, HomeStands}
use Rattle.ps_histlock.proofs.Steps.{seizes}
use Rattle.ps_histlock.proofs.lock.HistLock.shut.Goals as goal

pub compare_exchange-requires : goal.compare_exchange-requires
compare_exchange-requires g c =
    let words = c.self.invariant.0 in
    let first = ap (λ p. p.1) c.pass.view_is ∙ c.requires.first in
    (ap (λ p. p.0) c.pass.view_is ∙ c.requires.lock ∙ sym (ap (λ p. p.0) c.self.view_is), omega arith, seizes (home_origin g.K.Kept.origin) (HomeStands g.K.Kept.stands g.K.Kept.signer) g.K.Kept.signer _ _ _ _ 0 0 refl (ap (λ v. v.named) first) (ap (λ v. v.letter) first))

pub exchange-requires : goal.exchange-requires
exchange-requires g c =
    let t = c.compare_exchange.ensures.2.0 c.if-compare_exchange-ne0.false in
    let is = ap (λ m. m.1) t.6 in
    (c.compare_exchange.ensures.0 ∙ ap (λ p. p.0) c.pass.view_is ∙ c.requires.lock ∙ sym (ap (λ p. p.0) c.self.view_is), (Some t.1, is ∙ ap (λ l. (0, Some t.1) ∷ rest l) (sym is)))
