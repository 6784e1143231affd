use Rattle.std.proofs.Common.{◌≡◌, ◌-◌, ◌++◌, false, string_bytes}
use Rattle.serde_json.specs.View.{items_of}
use Rattle.serde_json.specs.Written.{items_text}
use Rattle.ps_choice.specs.Requests.{slots_from, slots_data}
use Rattle.ps_choice.proofs.request.write_slots.Given as goal

abbrev pub invariant-loop-slot : goal.invariant-loop-slot
invariant-loop-slot l = string_bytes l.line ++ items_text l.later (items_of (slots_from l.dex.moves l.side l.slot (l.count - l.slot)))
    ≡ string_bytes l.fn.line ++ items_text false (items_of (slots_data l.dex.moves l.side))
