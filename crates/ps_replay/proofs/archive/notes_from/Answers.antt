use Rattle.std.proofs.Common.{◌≡◌, ◌+◌, ◌∷◌, [], drop, arith, ap, sym, ◌∙◌}
use Rattle.std.proofs.lemmas.List.{drop_more, drop_all}
use Rattle.replay_script.specs.declared.item.Item.{Item}
use Rattle.replay_state.specs.Ledgers.{blank_noting}
use Rattle.replay_state.specs.Tables.{ledger_from}
use Rattle.ps_replay.proofs.RunLemmas.{ledger_more}
use Rattle.ps_replay.proofs.archive.notes_from.Goals as goal

pub loop-item-preserved : goal.loop-item-preserved
loop-item-preserved c =
    let rest = drop (c.loop-item.item-index + 1) c.args.items.now in
    let rest-is : drop c.loop-item.item-index c.args.items.now ≡ c.item-item.result ∷ rest = drop_more c.args.items.now
    c.loop-item.item-index c.item-item.result (omega arith) ∙ ap (λ (x : Item). x ∷ rest) (sym c.item-item.is) in
    ledger_more c.loop-item.table c.note_item.new.table c.item-item.result rest c.loop-item.pending.ledger c.note_item.new.pending.ledger
    (ledger_from c.args.table.now c.args.items.now blank_noting)
    c.in_ok-note_item.ensures.state c.in_ok-note_item.ensures.ledger (rw rest-is at c.loop-item.invariant)
