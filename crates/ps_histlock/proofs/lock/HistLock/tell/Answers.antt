use Rattle.std.proofs.Common.{sym, ap, arith, ◌∙◌}
use Rattle.ps_histlock.specs.Homes.{home_origin, HomeStands}
use Rattle.ps_histlock.proofs.Steps.{tells, hears, learns}
use Rattle.ps_histlock.proofs.lock.HistLock.tell.Goals as goal

pub split_seat-letter-requires : goal.split_seat-letter-requires
split_seat-letter-requires g c =
    let words = c.self.invariant.0 in
    (c.requires.seat_state.0 ∙ sym (ap (λ p. p.0) c.self.view_is), omega arith, tells (home_origin g.K.Kept.origin) (HomeStands g.K.Kept.stands g.K.Kept.signer) g.K.Kept.signer _ _ _ c.requires.seat_state.3)

pub join_seat-requires : goal.join_seat-requires
join_seat-requires g c =
    let words = c.self.invariant.0 in
    let is = c.split_seat-letter.ensures.4 in
    (c.requires.seat_state.1 ∙ sym (ap (λ p. p.0) c.self.view_is), c.split_seat-letter.ensures.3 ∙ c.requires.seat_state.0 ∙ sym (ap (λ p. p.0) c.self.view_is), ap (λ m. m.1) is, omega arith, hears (home_origin g.K.Kept.origin) (HomeStands g.K.Kept.stands g.K.Kept.signer) g.K.Kept.signer _ _ _ _ _ _ (ap (λ m. m.0.mine) is) (ap (λ m. m.0.mark) is))

pub load-requires : goal.load-requires
load-requires g c =
    let words = c.self.invariant.0 in
    (c.join_seat.ensures.0 ∙ c.requires.seat_state.1 ∙ sym (ap (λ p. p.0) c.self.view_is), omega arith, learns (home_origin g.K.Kept.origin) (HomeStands g.K.Kept.stands g.K.Kept.signer) g.K.Kept.signer _ _ _ _ (ap (λ m. m.0.named) c.join_seat.ensures.2 ∙ c.requires.to.0))
