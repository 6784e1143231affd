use Rattle.std.proofs.Common.{◌≡◌, drop}
use Rattle.replay_state.specs.Ledgers.{blank_noting}
use Rattle.replay_state.specs.Tables.{ledger_from}
use Rattle.ps_replay.proofs.archive.notes_from.Given as goal

abbrev pub invariant-loop-item : goal.invariant-loop-item
invariant-loop-item l = ledger_from l.table (drop l.item-index l.items) l.pending.ledger ≡ ledger_from l.fn.table l.items blank_noting
