use Rattle.std.proofs.Common.{sym, ap, arith, ◌∙◌, ◌∷◌, Some}
use Rattle.atomic_table.specs.Table.{rest}
use Rattle.ps_histlock.specs.Homes.{home_origin, HomeStands}
use Rattle.ps_histlock.proofs.Steps.{releases_as}
use Rattle.ps_histlock.proofs.lock.HistLock.release.Goals as goal

pub fetch_sub-requires : goal.fetch_sub-requires
fetch_sub-requires g c =
    let words = c.self.invariant.0 in
    let v = c.args.seat.now.me.0 in
    let is = c.exchange.ensures.3 ∙ ap (λ l. (v, (0, Some c.args.home) ∷ rest l)) c.requires.seat_state.1 in
    let value = c.requires.value in
    (c.exchange.ensures.0 ∙ c.requires.seat_state.0 ∙ sym (ap (λ p. p.0) c.self.view_is), omega arith, releases_as (home_origin g.K.Kept.origin) (HomeStands g.K.Kept.stands g.K.Kept.signer) g.K.Kept.signer _ _ _ _ v c.args.home c.self.invariant.1 is c.requires.turn.0 c.requires.turn.1 value.0 value.1)
