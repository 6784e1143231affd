use Rattle.std.proofs.Common.{◌≡◌, ◌++◌, false, map, drop, string_bytes}
use Rattle.serde_json.specs.View.{items_of}
use Rattle.serde_json.specs.Written.{items_text}
use Rattle.ps_choice.specs.Requests.{member_at_data}
use Rattle.ps_choice.proofs.request.write_members.Given as goal

abbrev pub invariant-loop-index : goal.invariant-loop-index
invariant-loop-index l = string_bytes l.line ++ items_text l.later (items_of (map (member_at_data l.dex l.nicks l.number l.out l.side) (drop l.index-index l.index-items)))
    ≡ string_bytes l.fn.line ++ items_text false (items_of (map (member_at_data l.dex l.nicks l.number l.out l.side) l.index-items))
