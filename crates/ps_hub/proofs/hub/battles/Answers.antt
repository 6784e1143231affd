use Rattle.std.proofs.Common.{◌≡◌, ◌+◌, ◌∷◌, [], length, arith, rules, length-append}
use Rattle.std.specs.Arc.{arc_value}
use Rattle.ps_hub.proofs.LockLemmas.{at_end, is_unopened, unopened_end}
use Rattle.ps_hub.proofs.hub.battles.Goals as goal

pub loop-n-preserved : goal.loop-n-preserved
loop-n-preserved c =
    let made : c.in_ok-lock.lock.1 ≡ record { number = 16 + c.loop-n.n; config = arc_value c.args.config.now; dex = arc_value c.args.dex.now } = search rules in
    let count : length c.loop-n.locks.items ≡ c.loop-n.n = c.loop-n.invariant.count in
    rw (c.in_ok-push.ensures.items, c.in_ok-push-2.ensures.items) (record {
      at = at_end (arc_value c.args.config.now) (arc_value c.args.dex.now) 16 (16 + c.loop-n.n) c.loop-n.locks.items c.in_ok-lock.lock c.loop-n.invariant.at (omega arith) made;
      count = omega (arith, length-append c.loop-n.locks.items (c.in_ok-lock.lock ∷ []));
      empty = unopened_end c.loop-n.locks.items c.loop-n.openers.items c.in_ok-lock.lock c.in_ok-lock.opener c.loop-n.invariant.empty (is_unopened c.in_ok-lock.lock.0 _ c.in_ok-lock.opener c.in_ok-lock.ensures.opener);
    })
