use Rattle.std.proofs.Common.{sym, ap, arith, ◌∙◌}
use Rattle.ps_histlock.specs.Homes.{home_origin, HomeStands}
use Rattle.ps_histlock.proofs.Steps.{tells, counts, hears_another, differs}
use Rattle.ps_histlock.proofs.lock.HistLock.compare.Goals as goal

pub load-requires : goal.load-requires
load-requires g c =
    let words = c.self.invariant.0 in
    (c.requires.seat_state.1 ∙ sym (ap (λ p. p.0) c.self.view_is), omega arith, counts (home_origin g.K.Kept.origin) (HomeStands g.K.Kept.stands g.K.Kept.signer) g.K.Kept.signer _ _ _ _ g.N.Far.far)

pub split_seat-letter-requires : goal.split_seat-letter-requires
split_seat-letter-requires g c =
    let words = c.self.invariant.0 in
    (c.load.ensures.0 ∙ c.requires.seat_state.1 ∙ sym (ap (λ p. p.0) c.self.view_is), omega arith, tells (home_origin g.K.Kept.origin) (HomeStands g.K.Kept.stands g.K.Kept.signer) g.K.Kept.signer _ _ _ (ap (λ m. m.0.named) c.load.ensures.2 ∙ c.requires.other))

pub join_seat-requires : goal.join_seat-requires
join_seat-requires g c =
    let words = c.self.invariant.0 in
    let is = c.split_seat-letter.ensures.4 in
    let stamp = ap (λ m. m.0.stamp) is ∙ ap (λ m. m.0.mark) c.load.ensures.2 in
    let far = c.requires.far in (
      c.requires.seat_state.0 ∙ sym (ap (λ p. p.0) c.self.view_is),
      c.split_seat-letter.ensures.3 ∙ c.load.ensures.0 ∙ c.requires.seat_state.1 ∙ sym (ap (λ p. p.0) c.self.view_is),
      ap (λ m. m.1) is,
      omega arith,
      hears_another (home_origin g.K.Kept.origin) (HomeStands g.K.Kept.stands g.K.Kept.signer) g.K.Kept.signer _ _ _ _ _ _ (ap (λ m. m.0.mine) is) (ap (λ m. m.0.mark) is) (ap (λ m. m.0.letter) is) c.requires.seat.1 (omega arith),
    )

pub load-requires-2 : goal.load-requires-2
load-requires-2 g c =
    let words = c.self.invariant.0 in
    (c.join_seat.ensures.0 ∙ c.requires.seat_state.0 ∙ sym (ap (λ p. p.0) c.self.view_is), omega arith, differs (home_origin g.K.Kept.origin) (HomeStands g.K.Kept.stands g.K.Kept.signer) g.K.Kept.signer _ _ _ _ (ap (λ m. m.0.named) c.join_seat.ensures.2 ∙ c.requires.seat.0) (ap (λ m. m.0.letter) c.join_seat.ensures.2 ∙ c.requires.seat.1))
