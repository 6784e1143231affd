use Rattle.std.proofs.Common.{◌≡◌, drop, string_bytes, []}
use Rattle.replay_state.specs.Ledgers.{blank}
use Rattle.replay_state.specs.Tables.{text_from, ledger_from}
use Rattle.ps_replay.proofs.RunLemmas.{Ran}
use Rattle.ps_replay.proofs.drill.run_from.Given as goal

abbrev pub invariant-loop-item : goal.invariant-loop-item
invariant-loop-item l = record {
  ran : Ran l.fn.tally l.tally l.counter (text_from l.fn.table l.items) l.table (drop l.item-index l.items);
  ledger : ledger_from l.table (drop l.item-index l.items) l.pending.ledger ≡ ledger_from l.fn.table l.items blank;
  empty : string_bytes l.pending.text ≡ [];
}
