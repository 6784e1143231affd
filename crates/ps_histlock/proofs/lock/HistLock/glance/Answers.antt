use Rattle.std.proofs.Common.{◌≡◌, ◌≤◌, ◌/◌, ℕ, [], length, sym, ap, subst, arith, ◌∙◌}
use Rattle.ps_histlock.specs.declared.view.View.{View}
use Rattle.ps_histlock.specs.Views.{after_look, IsAtRest}
use Rattle.ps_histlock.specs.Locks.{OwnSigns, HasSigned}
use Rattle.ps_histlock.specs.Homes.{home_origin, HomeStands}
use Rattle.ps_histlock.proofs.Steps.{glances, glanced}
use Rattle.ps_histlock.proofs.TurnLemmas.{rest_looked}
use Rattle.ps_histlock.proofs.lock.HistLock.glance.Given.{Over}
use Rattle.ps_histlock.proofs.lock.HistLock.glance.Goals as goal

pub load-requires : goal.load-requires
load-requires g c =
    let words = c.self.invariant.0 in
    let same = ap (λ p. p.0) c.pass.view_is ∙ c.requires.lock ∙ sym (ap (λ p. p.0) c.self.view_is) in
    (same, omega arith, glances (home_origin g.K.Kept.origin) (HomeStands g.K.Kept.stands g.K.Kept.signer) g.K.Kept.signer g.M.Play.then _ _ _ c.pass.inside.seat.id (c.args.pass.now.1, []) _ (sym (ap (λ p. p.1) c.self.view_is)) (sym c.self.invariant.1) (λ i. (sym (ap (λ p. p.1) c.pass.view_is) i, sym c.pass.invariant.0 i)) (c.requires.allowed c.pass.inside.seat.id))

after : (g : Over) (c : goal.After-load g) → (c.load.new.seat.me.0 ≡ after_look c.args.pass.now.1 (c.load.result / 2)) × (c.load.new.seat.me.1 ≡ []) × (length c.args.pass.now.1.known ≤ c.load.result / 2)
after g c = c.requires.rest c.load.result c.load.new.seat.me.0 c.load.new.seat.me.1
    (glanced (home_origin g.K.Kept.origin) (HomeStands g.K.Kept.stands g.K.Kept.signer) g.K.Kept.signer g.M.Play.then _ c.load.result (c.args.pass.now.1, []) _ c.load.new.seat.me (sym c.self.invariant.1) (λ i. (sym (ap (λ p. p.1) c.pass.view_is) i, sym c.pass.invariant.0 i)) c.load.ensures.2)

looked : (g : Over) (c : goal.After-load g) → c.load.new.seat.me.0 ≡ after_look c.pass.inside.seat.me.0 (c.load.result / 2)
looked g c = (after g c).0 ∙ ap (λ p. after_look p.1 (c.load.result / 2)) (sym c.pass.view_is)

pub invariant_of-pass : goal.invariant_of-pass
invariant_of-pass g c =
    let is = looked g c in
    let r = c.pass.invariant in
    let knows : length c.pass.inside.seat.me.0.known ≤ c.load.result / 2 = subst (λ (l : ℕ). l ≤ c.load.result / 2) (ap (λ p. length p.1.known) (sym c.pass.view_is)) (after g c).2 in (
      (after g c).1,
      subst (IsAtRest g.K.Kept.origin g.K.Kept.stands) (sym is) (rest_looked g.K.Kept.origin g.K.Kept.stands c.pass.inside.seat.me.0 (c.load.result / 2) r.1 knows),
      r.2 ∙ ap (λ u. length u.mine) (sym is),
      r.3,
      subst (λ (u : View g.row.K-Origin.Denot g.row.K-Cmd.Denot). OwnSigns g.K.Kept.signer u u.known) (sym is) r.4,
      subst (HasSigned g.K.Kept.signer c.pass.inside.has_signed) (ap (λ u. u.said) (sym is)) r.5,
    )

pub returns-clause-rest : goal.returns-clause-rest
returns-clause-rest g c = (invariant_of-pass g c).1

pub returns-clause-signed : goal.returns-clause-signed
returns-clause-signed g c = (invariant_of-pass g c).4
