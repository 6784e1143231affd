use Rattle.std.proofs.Common.{◌≡◌, ◌+◌, ◌∷◌, [], drop, string_bytes, arith, refl, ap, sym, ◌∙◌}
use Rattle.std.proofs.lemmas.List.{drop_more, drop_all}
use Rattle.replay_script.specs.declared.item.Item.{Item}
use Rattle.replay_state.specs.Tables.{Desk, desk_after, text_from}
use Rattle.ps_replay.proofs.FlowLemmas.{Came-start, Came-more, Came-stopped, Came-last, Came-all}
use Rattle.ps_replay.proofs.replay.replay_from.Goals as goal

pub loop-item-init : goal.loop-item-init
loop-item-init g c = record {
  came = rw c.new-pending.ensures.text (Came-start (g.K.Sink.written c.args.out.now) c.args.table.now c.args.items.now);
  here = refl;
  later = omega arith;
}

pub returns-in-Err-clause-err : goal.returns-in-Err-clause-err
returns-in-Err-clause-err g c =
    let rest-is : drop c.loop-item.item-index c.args.items.now ≡ c.item-item.result ∷ drop (c.loop-item.item-index + 1) c.args.items.now = drop_more c.args.items.now c.loop-item.item-index c.item-item.result (omega arith) ∙ ap (λ (x : Item). x ∷ drop (c.loop-item.item-index + 1) c.args.items.now) (sym c.item-item.is) in
    Came-stopped (g.K.Sink.written c.args.out.now) (g.K.Sink.written c.loop-item.out) (g.K.Sink.written c.replay_item.new.out) (text_from c.args.table.now c.args.items.now) (string_bytes c.loop-item.pending.text) c.loop-item.table c.item-item.result (drop (c.loop-item.item-index + 1) c.args.items.now)
    (rw rest-is at c.loop-item.invariant.came) c.in-Err.ensures.err

pub loop-item-preserved : goal.loop-item-preserved
loop-item-preserved g c =
    let rest-is : drop c.loop-item.item-index c.args.items.now ≡ c.item-item.result ∷ drop (c.loop-item.item-index + 1) c.args.items.now = drop_more c.args.items.now c.loop-item.item-index c.item-item.result (omega arith) ∙ ap (λ (x : Item). x ∷ drop (c.loop-item.item-index + 1) c.args.items.now) (sym c.item-item.is) in
    record {
      came = rw c.in-Ok.ensures.state (Came-more (g.K.Sink.written c.args.out.now) (g.K.Sink.written c.loop-item.out) (g.K.Sink.written c.replay_item.new.out) (text_from c.args.table.now c.args.items.now) (string_bytes c.loop-item.pending.text) (string_bytes c.replay_item.new.pending.text) c.loop-item.table c.item-item.result (drop (c.loop-item.item-index + 1) c.args.items.now)
          (rw rest-is at c.loop-item.invariant.came) c.in-Ok.ensures.wrote);
      here =
          c.loop-item.invariant.here
          ∙ ap (desk_after c.loop-item.table) rest-is
          ∙ ap (λ (d : Desk). desk_after d (drop (c.loop-item.item-index + 1) c.args.items.now)) (sym c.in-Ok.ensures.state);
      later = omega (arith, c.loop-item.invariant.later, c.in-Ok.ensures.later);
    }

pub returns-in-Err-flush-clause-err : goal.returns-in-Err-flush-clause-err
returns-in-Err-flush-clause-err g c =
    let none : drop c.loop-item.item-index c.args.items.now ≡ [] = drop_all c.loop-item.item-index c.args.items.now (omega arith) in
    Came-last (g.K.Sink.written c.args.out.now) (g.K.Sink.written c.loop-item.out) (g.K.Sink.written c.flush.new.out) (text_from c.args.table.now c.args.items.now) (string_bytes c.loop-item.pending.text) c.loop-item.table
    (rw none at c.loop-item.invariant.came) c.in-Err-flush.ensures.err

pub returns-clause-wrote : goal.returns-clause-wrote
returns-clause-wrote g c =
    let none : drop c.loop-item.item-index c.args.items.now ≡ [] = drop_all c.loop-item.item-index c.args.items.now (omega arith) in
    Came-all (g.K.Sink.written c.args.out.now) (g.K.Sink.written c.loop-item.out) (g.K.Sink.written c.flush.new.out) (text_from c.args.table.now c.args.items.now) (string_bytes c.loop-item.pending.text) (string_bytes c.flush.new.pending) c.loop-item.table
    (rw none at c.loop-item.invariant.came) c.in-Ok-flush.ensures.ok c.in-Ok-flush.ensures.empty

pub returns-clause-state : goal.returns-clause-state
returns-clause-state g c =
    let none : drop c.loop-item.item-index c.args.items.now ≡ [] = drop_all c.loop-item.item-index c.args.items.now (omega arith) in
    sym (c.loop-item.invariant.here ∙ ap (desk_after c.loop-item.table) none)
