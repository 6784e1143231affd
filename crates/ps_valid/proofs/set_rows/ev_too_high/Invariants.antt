use Rattle.std.proofs.Common.{◌≡◌, drop}
use Rattle.ps_valid.specs.SetRows.{ev_too_high}
use Rattle.ps_valid.proofs.set_rows.ev_too_high.Given as goal

abbrev pub invariant-loop-ev : goal.invariant-loop-ev
invariant-loop-ev l = ev_too_high l.number (drop l.ev-index l.evs) ≡ ev_too_high l.number l.evs
