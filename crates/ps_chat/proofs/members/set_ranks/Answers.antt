use Rattle.std.proofs.Common.{◌<◌, ◌∙◌, ap, length, set, map, take, drop, ◌++◌, get_or, arith, add-one}
use Rattle.ps_chat.specs.Rooms.{ranked}
use Rattle.ps_chat.proofs.FindLemmas.{changed, unchanged}
use Rattle.ps_chat.proofs.members.set_ranks.Goals as goal

pub loop-i-preserved : goal.loop-i-preserved
loop-i-preserved c =
    let f = ranked c.args.id.now c.args.rank in
    let lt : c.loop-i.i < length c.args.members.now.items = omega (arith, c.args.members.now.ok.0, c.len-i-end.ensures) in
    let item = c.index_mut.ensures.value ∙ ap (λ xs. get_or xs c.loop-i.i c.index_mut.result.now) c.loop-i.invariant ∙ unchanged f c.args.members.now.items c.loop-i.i c.index_mut.result.now lt in
    rw (add-one, c.loop-i.invariant, c.set_rank_of.ensures) (ap (λ x. set (map f (take c.loop-i.i c.args.members.now.items) ++ drop c.loop-i.i c.args.members.now.items) c.loop-i.i (f x)) item ∙ changed f c.args.members.now.items c.loop-i.i c.index_mut.result.now lt)
