use Rattle.std.proofs.Common.{refl, sym, subst, ◌∙◌, [], suc, append-nil, Err}
use Rattle.ps_histlock.specs.declared.turn.Unread.{Unread}
use Rattle.ps_histlock.specs.Turns.{Reads}
use Rattle.ps_histlock.proofs.Tries.{vain_more}
use Rattle.ps_histlock.proofs.lock.HistLock.read.Goals as goal

pub loop-init : goal.loop-init
loop-init g c = let v = c.args.pass.now.1 in (tt, tt, refl, refl, (0, [], refl, λ i. record v { met = sym (append-nil v.met) i }))

pub loop-preserved : goal.loop-preserved
loop-preserved g c =
    let told = subst (λ (e : Unread). Reads g.K.Kept.pulls c.loop.pass.1 c.loop.cursor (Err e) c.try_read.new.pass.1 c.try_read.new.cursor) c.in-Err-Busy.field-0-is c.in-Err-Busy.ensures.does in
    let before = c.loop.invariant in
    let tries = before.4 in
    let more = vain_more c.args.pass.now.1 c.loop.pass.1 c.try_read.new.pass.1 tries.0 tries.1 c.in-Err-Busy.field-0-0 tries.2 tries.3 told.0 in
    (tt, tt, c.in-Err-Busy.ensures.lock ∙ before.2, told.1 ∙ before.3, (suc tries.0, more.0, more.1, more.2))
