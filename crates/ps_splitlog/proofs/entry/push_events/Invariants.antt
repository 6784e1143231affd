use Rattle.std.proofs.Common.{◌≡◌, ◌++◌, drop}
use Rattle.std.specs.List.{filter_map}
use Rattle.ps_splitlog.specs.Lines.{stored_of_event}
use Rattle.ps_splitlog.proofs.entry.push_events.Given as goal

abbrev pub invariant-loop-event : goal.invariant-loop-event
invariant-loop-event l = l.stored.items ++ filter_map (stored_of_event l.names l.dex) (drop l.event-index l.events) ≡ l.fn.stored.items ++ filter_map (stored_of_event l.names l.dex) l.events
