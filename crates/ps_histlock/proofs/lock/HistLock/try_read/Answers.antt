use Rattle.std.proofs.Common.{◌≡◌, [], ◌*◌, length, sym, ap, subst, ◌∙◌}
use Rattle.ps_histlock.specs.declared.view.View.{View}
use Rattle.ps_histlock.specs.Views.{after_turn, IsAtRest}
use Rattle.ps_histlock.specs.Locks.{OwnSigns, HasSigned}
use Rattle.ps_histlock.proofs.TurnLemmas.{still_so, rest_turned}
use Rattle.ps_histlock.proofs.lock.HistLock.try_read.Goals as goal

pub invariant_of-pass : goal.invariant_of-pass
invariant_of-pass g c =
    let err = c.in-Err.ensures.err in
    let r = c.pass.invariant in
    let so = still_so (λ u. IsAtRest g.K.Kept.origin g.K.Kept.stands u × (c.pass.inside.own ≡ length u.mine) × OwnSigns g.K.Kept.signer u u.known × HasSigned g.K.Kept.signer c.pass.inside.has_signed u.said) c.pass.inside.seat.me.0 _ _ (λ words. (r.1, r.2, r.4, r.5)) err.0 in
    (err.1, so.0, so.1, r.3, so.2, so.3)

pub returns-in-Err-clause-rest : goal.returns-in-Err-clause-rest
returns-in-Err-clause-rest g c = (invariant_of-pass g c).1

pub invariant_of-pass-2 : goal.invariant_of-pass-2
invariant_of-pass-2 g c =
    let v = c.pass.inside.seat.me.0 in
    let ok = c.in-Ok.ensures.ok in
    let r = c.pass.invariant in
    let is = c.pull.ensures.released ∙ ap (λ m. (after_turn m.0, [])) ok.4 in (
      ap (λ m. m.1) is,
      subst (IsAtRest g.K.Kept.origin g.K.Kept.stands) (sym (ap (λ m. m.0) is)) (rest_turned g.K.Kept.origin g.K.Kept.stands v ok.0 (2 * length ok.0) r.1 ok.1 (_, ok.3.0, ok.3.1.0)),
      r.2 ∙ sym (ap (λ m. length m.0.mine) is),
      r.3,
      subst (λ (u : View g.row.K-Origin.Denot g.row.K-Cmd.Denot). OwnSigns g.K.Kept.signer u u.known) (sym (ap (λ m. m.0) is)) ok.2,
      subst (HasSigned g.K.Kept.signer c.pass.inside.has_signed) (sym (ap (λ m. m.0.said) is)) r.5,
    )

pub returns-clause-rest : goal.returns-clause-rest
returns-clause-rest g c = (invariant_of-pass-2 g c).1
