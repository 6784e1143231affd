use Rattle.std.proofs.Common.{◌≡◌, List, [], length, sym, ap, subst, ◌∙◌}
use Rattle.ps_histlock.specs.Histories.{longer}
use Rattle.ps_histlock.specs.Views.{IsAtRest, knowing}
use Rattle.ps_histlock.proofs.Lists.{longer_of_more, one_list, prefix_trans}
use Rattle.ps_histlock.specs.declared.view.View.{View}
use Rattle.ps_histlock.specs.declared.view.Entry.{Entry}
use Rattle.ps_histlock.specs.Locks.{OwnSigns, HasSigned}
use Rattle.ps_histlock.proofs.Steps.{rest_knowing}
use Rattle.ps_histlock.proofs.lock.HistLock.meet.Given.{Over}
use Rattle.ps_histlock.proofs.lock.HistLock.meet.Goals as goal

pass_is : (g : Over) (c : goal.After-tell-2 g) → c.tell-2.new.from.me ≡ (knowing c.pass.inside.seat.me.0 (longer c.pass.inside.seat.me.0.known c.other.inside.seat.me.0.known), [])
pass_is g c = c.tell-2.ensures.from.2 ∙ c.tell.ensures.to.2

other_is : (g : Over) (c : goal.After-tell-2 g) → c.tell-2.new.to.me ≡ (knowing c.other.inside.seat.me.0 (longer c.pass.inside.seat.me.0.known c.other.inside.seat.me.0.known), [])
other_is g c =
    let v = c.pass.inside.seat.me.0 in
    let w = c.other.inside.seat.me.0 in
    c.tell-2.ensures.to.2
    ∙ (λ i. (knowing (c.tell.ensures.from.2 i).0 (longer (c.tell.ensures.from.2 i).0.known (c.tell.ensures.to.2 i).0.known), []))
    ∙ ap (λ l. (knowing w l, [])) (longer_of_more w.known (longer v.known w.known) c.tell.ensures.one.1)

pass_signs : (g : Over) (c : goal.After-tell-2 g) → OwnSigns g.K.Kept.signer c.tell-2.new.from.me.0 c.tell-2.new.from.me.0.known
pass_signs g c = subst (λ (u : View g.row.K-Origin.Denot g.row.K-Cmd.Denot). OwnSigns g.K.Kept.signer u u.known) (sym (ap (λ m. m.0) (pass_is g c))) c.tell.ensures.signed

other_signs : (g : Over) (c : goal.After-tell-2 g) → OwnSigns g.K.Kept.signer c.tell-2.new.to.me.0 c.tell-2.new.to.me.0.known
other_signs g c =
    let v = c.pass.inside.seat.me.0 in
    let w = c.other.inside.seat.me.0 in
    let there = subst (λ (z : View g.row.K-Origin.Denot g.row.K-Cmd.Denot × List (Entry g.row.K-Cmd.Denot)). OwnSigns g.K.Kept.signer z.0 z.1) (λ i. ((c.tell.ensures.from.2 i).0, longer (c.tell.ensures.from.2 i).0.known (c.tell.ensures.to.2 i).0.known)) c.tell-2.ensures.signed in
    let here = subst (λ (l : List (Entry g.row.K-Cmd.Denot)). OwnSigns g.K.Kept.signer w l) (longer_of_more w.known (longer v.known w.known) c.tell.ensures.one.1) there in
    subst (λ (u : View g.row.K-Origin.Denot g.row.K-Cmd.Denot). OwnSigns g.K.Kept.signer u u.known) (sym (ap (λ m. m.0) (other_is g c))) here

pub returns-clause-one_list : goal.returns-clause-one_list
returns-clause-one_list g c =
    let v = c.pass.inside.seat.me.0 in
    let w = c.other.inside.seat.me.0 in
    rw (← c.pass.view_is, ← c.other.view_is) (one_list v.seen w.seen (longer v.known w.known) (prefix_trans v.seen v.known _ c.pass.invariant.1.5 c.tell.ensures.one.0) (prefix_trans w.seen w.known _ c.other.invariant.1.5 c.tell.ensures.one.1))

pub invariant_of-pass : goal.invariant_of-pass
invariant_of-pass g c =
    let is = pass_is g c in
    let r = c.pass.invariant in
    (ap (λ m. m.1) is, subst (IsAtRest g.K.Kept.origin g.K.Kept.stands) (sym (ap (λ m. m.0) is)) (rest_knowing g.K.Kept.origin g.K.Kept.stands c.pass.inside.seat.me.0 _ r.1 c.tell.ensures.one.0), r.2 ∙ sym (ap (λ m. length m.0.mine) is), r.3, pass_signs g c, subst (HasSigned g.K.Kept.signer c.pass.inside.has_signed) (sym (ap (λ m. m.0.said) is)) r.5)

pub invariant_of-other : goal.invariant_of-other
invariant_of-other g c =
    let is = other_is g c in
    let r = c.other.invariant in
    (ap (λ m. m.1) is, subst (IsAtRest g.K.Kept.origin g.K.Kept.stands) (sym (ap (λ m. m.0) is)) (rest_knowing g.K.Kept.origin g.K.Kept.stands c.other.inside.seat.me.0 _ r.1 c.tell.ensures.one.1), r.2 ∙ sym (ap (λ m. length m.0.mine) is), r.3, other_signs g c, subst (HasSigned g.K.Kept.signer c.other.inside.has_signed) (sym (ap (λ m. m.0.said) is)) r.5)

pub returns-clause-rest : goal.returns-clause-rest
returns-clause-rest g c = ((invariant_of-pass g c).1, (invariant_of-other g c).1)
