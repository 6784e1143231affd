use Rattle.std.proofs.Common.{◌≡◌, ◌++◌, take, string_bytes}
use Rattle.std.specs.List.{flat_map}
use Rattle.ps_room.specs.Lines.{users_part}
use Rattle.ps_room.proofs.line.push_users.Given as goal

abbrev pub invariant-loop-member : goal.invariant-loop-member
invariant-loop-member l = string_bytes l.line ≡ string_bytes l.fn.line ++ flat_map (users_part l.groups) (take l.member-index l.members)
