use Rattle.std.proofs.Common.{◌≡◌, [], ◌∷◌, ◌+◌, ◌*◌, length-append, length, None, refl, sym, ap, subst, ◌∙◌, rules}
use Rattle.ps_histlock.specs.declared.view.View.{View}
use Rattle.ps_histlock.specs.Histories.{entry}
use Rattle.ps_histlock.specs.Views.{after_turn, HasGrown, HasLooked, IsAtRest}
use Rattle.ps_histlock.specs.Turns.{Turns}
use Rattle.ps_histlock.specs.Locks.{OwnSigns, MaySign, SignsOn, HasSigned}
use Rattle.ps_histlock.proofs.TurnLemmas.{entered, still_so, grown_held, rest_turned}
use Rattle.ps_histlock.proofs.lock.HistLock.try_enter.Goals as goal

pub invariant_of-pass-then-is_anothers : goal.invariant_of-pass-then-is_anothers
invariant_of-pass-then-is_anothers g c =
    let v = c.pass.inside.seat.me.0 in
    let ok = c.in-Ok.ensures.ok in
    let r = c.pass.invariant in
    let is = c.release.ensures.released ∙ ap (λ m. (after_turn m.0, [])) ok.4 in (
      ap (λ m. m.1) is,
      subst (IsAtRest g.K.Kept.origin g.K.Kept.stands) (sym (ap (λ m. m.0) is)) (rest_turned g.K.Kept.origin g.K.Kept.stands v ok.0 (2 * length ok.0) r.1 ok.1 (_, ok.3.0, ok.3.1.0)),
      r.2 ∙ sym (ap (λ m. length m.0.mine) is),
      r.3,
      subst (λ (u : View g.row.K-Origin.Denot g.row.K-Cmd.Denot). OwnSigns g.K.Kept.signer u u.known) (sym (ap (λ m. m.0) is)) ok.2,
      subst (HasSigned g.K.Kept.signer c.pass.inside.has_signed) (sym (ap (λ m. m.0.said) is)) r.5,
    )

pub returns-then-is_anothers-clause-rest : goal.returns-then-is_anothers-clause-rest
returns-then-is_anothers-clause-rest g c = (invariant_of-pass-then-is_anothers g c).1

pub returns-then-is_anothers-clause-does : goal.returns-then-is_anothers-clause-does
returns-then-is_anothers-clause-does g c =
    let ok = c.in-Ok.ensures.ok in
    let is = c.release.ensures.released ∙ ap (λ m. (after_turn m.0, [])) ok.4 in
    (subst (λ (u : View g.row.K-Origin.Denot g.row.K-Cmd.Denot). Turns u None c.release.new.seat.me.0) (ap (λ p. p.1) c.pass.view_is) (ok.0, ok.1, ap (λ m. m.0) is), refl, refl)

pub write-turn-requires-clause-sign : goal.write-turn-requires-clause-sign
write-turn-requires-clause-sign g c =
    let v = c.pass.inside.seat.me.0 in
    let ok = c.in-Ok.ensures.ok in
    let r = c.pass.invariant in
    let on = subst (λ s. SignsOn g.K.Kept.signer s c.args.cmd) (sym (ap (λ p. p.1.said) c.pass.view_is)) c.requires.sign in
    subst (λ (u : View g.row.K-Origin.Denot g.row.K-Cmd.Denot). MaySign g.K.Kept.signer u u.seen c.args.cmd) (sym (ap (λ m. m.0) ok.4)) (r.1.6, c.if-is_anothers.ensures.free refl v.said ok.0 r.5 on ok.3.1)

pub write-turn-requires-clause-grown : goal.write-turn-requires-clause-grown
write-turn-requires-clause-grown g c =
    let ok = c.in-Ok.ensures.ok in
    subst (λ (u : View g.row.K-Origin.Denot g.row.K-Cmd.Denot). HasGrown (u.turns + 1) u) (sym (ap (λ m. m.0) ok.4)) (grown_held c.pass.inside.seat.me.0 ok.0 (2 * length ok.0) c.pass.invariant.1.7 ok.1)

pub write-turn-requires-clause-looked : goal.write-turn-requires-clause-looked
write-turn-requires-clause-looked g c = subst HasLooked (sym (ap (λ m. m.0) c.in-Ok.ensures.ok.4)) c.pass.invariant.1.9

pub invariant_of-pass-in-Done : goal.invariant_of-pass-in-Done
invariant_of-pass-in-Done g c =
    let m = c.seize.new.seat.me in
    let e = entered g.K.Kept.answers g.K.Kept.pulls m.0 _ _ _ _ _ c.write-turn.ensures.does c.in-Done.is in
    let grown = ap (λ u. length u.mine) e ∙ length-append m.0.mine (entry m.0.number c.args.cmd ∷ []) ∙ ap (λ q. length q.0.mine + 1) c.in-Ok.ensures.ok.4 in
    let has = subst (HasSigned g.K.Kept.signer c.pass.inside.has_signed) (sym (ap (λ q. q.0.said) c.in-Ok.ensures.ok.4)) c.pass.invariant.5 in (
      c.write-turn.ensures.same.2,
      c.write-turn.ensures.rest,
      ap (λ n. n + 1) c.pass.invariant.2 ∙ sym grown,
      search rules,
      c.write-turn.ensures.signed,
      subst (HasSigned g.K.Kept.signer c.signs_with-has_signed.result) (sym (ap (λ u. u.said) e)) (c.signs_with-has_signed.ensures m.0.number m.0.said has),
    )

pub returns-then-pass-ge-OWN_LIMIT-clause-rest : goal.returns-then-pass-ge-OWN_LIMIT-clause-rest
returns-then-pass-ge-OWN_LIMIT-clause-rest g c = subst (IsAtRest g.K.Kept.origin g.K.Kept.stands) (ap (λ p. p.1) c.pass.view_is) c.pass.invariant.1

pub invariant_of-pass : goal.invariant_of-pass
invariant_of-pass g c =
    let err = c.in-Err.ensures.err in
    let r = c.pass.invariant in
    let so = still_so (λ u. IsAtRest g.K.Kept.origin g.K.Kept.stands u × (c.pass.inside.own ≡ length u.mine) × OwnSigns g.K.Kept.signer u u.known × HasSigned g.K.Kept.signer c.pass.inside.has_signed u.said) c.pass.inside.seat.me.0 _ _ (λ words. (r.1, r.2, r.4, r.5)) err.0 in
    (err.1, so.0, so.1, r.3, so.2, so.3)

pub returns-in-Err-clause-rest : goal.returns-in-Err-clause-rest
returns-in-Err-clause-rest g c = (invariant_of-pass g c).1
