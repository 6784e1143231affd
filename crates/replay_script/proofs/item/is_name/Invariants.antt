use Rattle.std.proofs.Common.{◌≡◌, true, take}
use Rattle.std.specs.List.{list_all}
use Rattle.ps_base.specs.Ids.{is_id_byte}
use Rattle.replay_script.proofs.item.is_name.Given as goal

abbrev pub invariant-loop-b : goal.invariant-loop-b
invariant-loop-b l = list_all is_id_byte (take l.b-index l.text) ≡ true
