use Rattle.std.proofs.Common.{◌≡◌, length, refl, sym, ap, subst, arith, ◌∙◌}
use Rattle.ps_histlock.specs.declared.view.View.{View}
use Rattle.ps_histlock.specs.Histories.{entries_of}
use Rattle.ps_histlock.specs.Views.{with_number, IsAtRest}
use Rattle.ps_histlock.specs.Locks.{OwnSigns, HasSigned}
use Rattle.ps_histlock.specs.Homes.{home_origin, HomeStands}
use Rattle.ps_histlock.proofs.Steps.{inherits, names}
use Rattle.ps_histlock.proofs.lock.HistLock.heir.Goals as goal

pub split_seat-new-requires : goal.split_seat-new-requires
split_seat-new-requires g c =
    let words = c.self.invariant.0 in
    let same = ap (λ p. p.0) c.pass.view_is ∙ c.requires ∙ sym (ap (λ p. p.0) c.self.view_is) in
    (same, omega arith, inherits (home_origin g.K.Kept.origin) (HomeStands g.K.Kept.stands g.K.Kept.signer) g.K.Kept.signer _ _ _ c.pass.invariant.1.3 c.pass.invariant.1.6)

pub load-requires : goal.load-requires
load-requires g c =
    let words = c.self.invariant.0 in
    let same = ap (λ p. p.0) c.pass.view_is ∙ c.requires ∙ sym (ap (λ p. p.0) c.self.view_is) in
    (c.split_seat-new.ensures.3 ∙ same, omega arith, names (home_origin g.K.Kept.origin) (HomeStands g.K.Kept.stands g.K.Kept.signer) g.K.Kept.signer _ _ _ _)

pub invariant_of-result : goal.invariant_of-result
invariant_of-result g c =
    let r = c.pass.invariant in
    let t = c.load.ensures.2 in
    let here = c.split_seat-new.ensures.4 in
    let is = t.1 ∙ ap (λ m. (with_number m.0 t.0, m.1)) here in
    let none = subst (λ m. m.0.mine ≡ entries_of t.0 m.0.seen) here t.2 in (
      ap (λ m. m.1) is,
      subst (IsAtRest g.K.Kept.origin g.K.Kept.stands) (sym (ap (λ m. m.0) is)) (refl, refl, none, refl, refl, r.1.5, refl, (refl, λ k d h. absurd (omega arith), λ k d h. absurd (omega arith)), λ some. absurd (omega arith), tt),
      sym (ap (λ m. length m.0.mine) is),
      omega arith,
      subst (λ (u : View g.row.K-Origin.Denot g.row.K-Cmd.Denot). OwnSigns g.K.Kept.signer u u.known) (sym (ap (λ m. m.0) is)) r.4,
      subst (HasSigned g.K.Kept.signer c.pass.inside.has_signed) (sym (ap (λ m. m.0.said) is)) r.5,
    )
