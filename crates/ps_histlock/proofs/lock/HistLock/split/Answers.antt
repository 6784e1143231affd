use Rattle.std.proofs.Common.{length, sym, ap, subst, arith, ◌∙◌}
use Rattle.ps_histlock.specs.declared.view.View.{View}
use Rattle.ps_histlock.specs.Views.{IsAtRest}
use Rattle.ps_histlock.specs.Locks.{OwnSigns, HasSigned}
use Rattle.ps_histlock.specs.Homes.{home_origin, HomeStands}
use Rattle.ps_histlock.proofs.Steps.{splits, names}
use Rattle.ps_histlock.proofs.lock.HistLock.split.Goals as goal

pub split_seat-seat-requires : goal.split_seat-seat-requires
split_seat-seat-requires g c =
    let words = c.self.invariant.0 in
    let same = ap (λ p. p.0) c.pass.view_is ∙ c.requires ∙ sym (ap (λ p. p.0) c.self.view_is) in
    (same, omega arith, splits (home_origin g.K.Kept.origin) (HomeStands g.K.Kept.stands g.K.Kept.signer) g.K.Kept.signer _ _ _ c.pass.invariant.1.3)

pub load-requires : goal.load-requires
load-requires g c =
    let words = c.self.invariant.0 in
    let same = ap (λ p. p.0) c.pass.view_is ∙ c.requires ∙ sym (ap (λ p. p.0) c.self.view_is) in
    (c.split_seat-seat.ensures.3 ∙ same, omega arith, names (home_origin g.K.Kept.origin) (HomeStands g.K.Kept.stands g.K.Kept.signer) g.K.Kept.signer _ _ _ _)

pub invariant_of-pass : goal.invariant_of-pass
invariant_of-pass g c =
    let is = c.split_seat-seat.ensures.2 in
    let r = c.pass.invariant in (
      ap (λ m. m.1) is ∙ r.0,
      subst (IsAtRest g.K.Kept.origin g.K.Kept.stands) (sym (ap (λ m. m.0) is)) r.1,
      r.2 ∙ sym (ap (λ m. length m.0.mine) is),
      r.3,
      subst (λ (u : View g.row.K-Origin.Denot g.row.K-Cmd.Denot). OwnSigns g.K.Kept.signer u u.known) (sym (ap (λ m. m.0) is)) r.4,
      subst (HasSigned g.K.Kept.signer c.pass.inside.has_signed) (sym (ap (λ m. m.0.said) is)) r.5,
    )
