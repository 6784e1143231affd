use Rattle.std.proofs.Common.{sym, ap, arith, ◌∙◌, ◌∷◌, ◌/◌, ◌≡◌, ◌*◌, ℕ, Some}
use Rattle.atomic_table.specs.Table.{rest}
use Rattle.ps_histlock.specs.Homes.{home_origin, HomeStands}
use Rattle.ps_histlock.proofs.Steps.{meets, seizes}
use Rattle.ps_histlock.proofs.lock.HistLock.seize.Goals as goal

pub load-word-requires : goal.load-word-requires
load-word-requires g c =
    let words = c.self.invariant.0 in
    (c.requires.0 ∙ sym (ap (λ p. p.0) c.self.view_is), omega arith, meets (home_origin g.K.Kept.origin) (HomeStands g.K.Kept.stands g.K.Kept.signer) g.K.Kept.signer _ _ _ _)

pub compare_exchange-found-requires : goal.compare_exchange-found-requires
compare_exchange-found-requires g c =
    let words = c.self.invariant.0 in
    let word : ℕ = c.load-word.result in
    let not_odd = c.if-word-eq1.false in
    let even : word ≡ 2 * (word / 2) = omega arith in
    (c.load-word.ensures.0 ∙ c.requires.0 ∙ sym (ap (λ p. p.0) c.self.view_is), omega arith, seizes (home_origin g.K.Kept.origin) (HomeStands g.K.Kept.stands g.K.Kept.signer) g.K.Kept.signer _ _ _ _ word (word / 2) even (ap (λ m. m.0.named) c.load-word.ensures.2 ∙ c.requires.2) (ap (λ m. m.0.letter) c.load-word.ensures.2 ∙ c.requires.3))

pub exchange-requires : goal.exchange-requires
exchange-requires g c =
    let t = c.compare_exchange-found.ensures.2.0 c.if-found-word.false in
    let is = ap (λ m. m.1) t.6 in
    (c.compare_exchange-found.ensures.0 ∙ c.load-word.ensures.0 ∙ c.requires.0 ∙ sym (ap (λ p. p.0) c.self.view_is), (Some t.1, is ∙ ap (λ l. (0, Some t.1) ∷ rest l) (sym is)))
