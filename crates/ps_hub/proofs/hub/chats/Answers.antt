use Rattle.std.proofs.Common.{◌≡◌, ◌∷◌, [], true, length, refl, sym, arith, rules, length-append}
use Rattle.std.proofs.lemmas.Bool.Decides.{nat_tests}
use Rattle.std.specs.Prelude.{nat_lt, slice_get, Some}
use Rattle.std.specs.Arc.{arc_value}
use Rattle.std.proofs.lemmas.Option.{slice_get_read}
use Rattle.ps_hub.proofs.LockLemmas.{at_end, is_unopened, unopened_end}
use Rattle.ps_hub.proofs.hub.chats.Goals as goal

pub chat-requires : goal.chat-requires
chat-requires c =
    let low : nat_lt c.loop-number.number 16 ≡ true = grind (arith, nat_tests) in
    let same : arc_value c.in_ok-clone.field-0 ≡ arc_value c.args.config.now = search rules in
    let listed : slice_get c.args.rooms.now c.loop-number.number ≡ Some c.index-rooms-number.result = slice_get_read c.args.rooms.now (length c.args.rooms.now) c.loop-number.number c.index-rooms-number.result refl (omega arith) c.index-rooms-number.is in
    rw (low, same, sym c.requires.0, listed) refl

pub loop-number-preserved : goal.loop-number-preserved
loop-number-preserved c =
    let made : c.in_ok-lock.lock.1 ≡ record { number = c.loop-number.number; config = arc_value c.args.config.now; dex = arc_value c.args.dex.now } = search rules in
    let count : length c.loop-number.locks.items ≡ c.loop-number.number = c.loop-number.invariant.count in
    rw (c.in_ok-push.ensures.items, c.in_ok-push-2.ensures.items) (record {
      at = at_end (arc_value c.args.config.now) (arc_value c.args.dex.now) 0 (c.loop-number.number) c.loop-number.locks.items c.in_ok-lock.lock c.loop-number.invariant.at (omega arith) made;
      count = omega (arith, length-append c.loop-number.locks.items (c.in_ok-lock.lock ∷ []));
      empty = unopened_end c.loop-number.locks.items c.loop-number.openers.items c.in_ok-lock.lock c.in_ok-lock.opener c.loop-number.invariant.empty (is_unopened c.in_ok-lock.lock.0 _ c.in_ok-lock.opener c.in_ok-lock.ensures.opener);
    })
