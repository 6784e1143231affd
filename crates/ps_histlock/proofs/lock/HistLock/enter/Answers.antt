use Rattle.std.proofs.Common.{refl, sym, ap, subst, ◌∙◌, [], suc, length, append-nil}
use Rattle.ps_histlock.specs.Turns.{IsNotBusy}
use Rattle.ps_histlock.proofs.Tries.{vain_more}
use Rattle.ps_histlock.proofs.lock.HistLock.enter.Goals as goal

pub loop-init : goal.loop-init
loop-init g c = let v = c.args.pass.now.1 in (tt, tt, refl, refl, refl, (0, [], refl, λ i. record v { met = sym (append-nil v.met) i }, λ _. refl))

pub loop-preserved : goal.loop-preserved
loop-preserved g c =
    let told = c.in-Busy.ensures.does in
    let before = c.loop.invariant in
    let tries = before.5 in
    let more = vain_more c.args.pass.now.1 c.loop.pass.1 c.try_enter.new.pass.1 tries.0 tries.1 c.in-Busy.word tries.2 tries.3 told.0 in (
      tt,
      tt,
      told.1 ∙ before.2,
      c.in-Busy.ensures.lock ∙ before.3,
      told.2 ∙ before.4,
      (
        suc tries.0,
        more.0,
        more.1,
        more.2,
        λ full. absurd (subst IsNotBusy (sym (c.in-Busy.ensures.limit (ap (λ v. length v.mine) tries.3 ∙ full)).0) tt),
      ),
    )
