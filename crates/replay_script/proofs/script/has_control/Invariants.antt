use Rattle.std.proofs.Common.{◌≡◌, false, take}
use Rattle.std.specs.List.{list_any}
use Rattle.replay_script.specs.Controls.{is_control}
use Rattle.replay_script.proofs.script.has_control.Given as goal

abbrev pub invariant-loop-b : goal.invariant-loop-b
invariant-loop-b l = list_any is_control (take l.b-index l.line) ≡ false
