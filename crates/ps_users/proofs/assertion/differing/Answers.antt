use Rattle.std.proofs.Common.{length}
use Rattle.std.proofs.lemmas.List.{length_push}
use Rattle.std.proofs.lemmas.Slice.Zip.{zip_turn, zip_end}
use Rattle.ps_users.proofs.SameLemmas.{next_compared, all_compared}
use Rattle.ps_users.proofs.assertion.differing.Goals as goal

pub loop-a-preserved : goal.loop-a-preserved
loop-a-preserved c =
    let one = c.args.one.now in
    let other = c.args.other.now in
    let turn = zip_turn one other c.loop-a.yielded c.into_iter-a-iterator.result c.loop-a.a-iterator c.next.new.self c.next.result (cc) (cc) c.loop-a.yielded_by _ c.in-Some.is c.next.ensures.steps in
    next_compared one other (length c.loop-a.yielded) _ c.loop-a.bits c.in-Some.a.now c.in-Some.b.now (length_push c.loop-a.yielded _) c.loop-a.invariant turn.0 turn.1 (turn.2 0) (turn.3 0)

pub returns : goal.returns
returns c =
    let one = c.args.one.now in
    let other = c.args.other.now in
    all_compared one other (length c.loop-a.yielded) c.loop-a.bits c.requires (zip_end one other c.loop-a.yielded c.into_iter-a-iterator.result c.loop-a.a-iterator c.next.new.self c.next.result (cc) (cc) c.loop-a.yielded_by c.in-None.is c.next.ensures.steps) c.loop-a.invariant
