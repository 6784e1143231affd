use Rattle.std.proofs.Common.{◌≡◌, ◌+◌, ◌∷◌, [], drop, arith, ap, sym, ◌∙◌}
use Rattle.std.proofs.lemmas.List.{drop_more, drop_all}
use Rattle.replay_script.specs.declared.item.Item.{Item}
use Rattle.replay_state.specs.Ledgers.{blank}
use Rattle.replay_state.specs.Tables.{text_from, ledger_from}
use Rattle.ps_replay.proofs.RunLemmas.{Ran-more, Ran-all, ledger_more}
use Rattle.ps_replay.proofs.drill.run_from.Goals as goal

pub loop-item-preserved : goal.loop-item-preserved
loop-item-preserved c =
    let rest = drop (c.loop-item.item-index + 1) c.args.items.now in
    let rest-is : drop c.loop-item.item-index c.args.items.now ≡ c.item-item.result ∷ rest = drop_more c.args.items.now c.loop-item.item-index c.item-item.result (omega arith) ∙ ap (λ (x : Item). x ∷ rest) (sym c.item-item.is) in
    record {
      ran = rw c.in_ok-run_item.ensures.state (Ran-more c.args.tally c.loop-item.tally c.run_item.new.tally c.loop-item.counter c.run_item.new.counter (text_from c.args.table.now c.args.items.now) c.loop-item.table c.item-item.result rest
          (rw rest-is at c.loop-item.invariant.ran) c.in_ok-run_item.ensures.tally c.in_ok-run_item.ensures.counter);
      ledger = ledger_more c.loop-item.table c.run_item.new.table c.item-item.result rest c.loop-item.pending.ledger c.run_item.new.pending.ledger (ledger_from c.args.table.now c.args.items.now blank)
          c.in_ok-run_item.ensures.state c.in_ok-run_item.ensures.ledger (rw rest-is at c.loop-item.invariant.ledger);
      empty = c.in_ok-run_item.ensures.empty;
    }

pub returns : goal.returns
returns c =
    let none : drop c.loop-item.item-index c.args.items.now ≡ [] = drop_all c.loop-item.item-index c.args.items.now (omega arith) in
    rw c.counts.ensures (Ran-all c.args.tally c.loop-item.tally c.loop-item.counter c.loop-item.pending.ledger c.args.table.now c.loop-item.table c.args.items.now
    (rw none at c.loop-item.invariant.ran) (rw none at c.loop-item.invariant.ledger))
