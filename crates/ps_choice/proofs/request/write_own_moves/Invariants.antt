use Rattle.std.proofs.Common.{◌≡◌, ◌++◌, false, map, drop, string_bytes}
use Rattle.serde_json.specs.View.{items_of}
use Rattle.serde_json.specs.Written.{items_text}
use Rattle.ps_choice.specs.Requests.{move_id_data}
use Rattle.ps_choice.proofs.request.write_own_moves.Given as goal

abbrev pub invariant-loop-slot : goal.invariant-loop-slot
invariant-loop-slot l = string_bytes l.line ++ items_text l.later (items_of (map (move_id_data l.moves) (drop l.slot-index l.slots)))
    ≡ string_bytes l.fn.line ++ items_text false (items_of (map (move_id_data l.moves) l.slots))
