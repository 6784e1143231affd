use Rattle.std.proofs.Common.{◌≡◌, ◌++◌, map, take, drop}
use Rattle.ps_splitlog.specs.Reads.{messages_of, role_past}
use Rattle.ps_splitlog.proofs.read.push_messages.Given as goal
use Rattle.ps_base.specs.Messages.{msg_lines}

abbrev pub invariant-loop-entry_index : goal.invariant-loop-entry_index
invariant-loop-entry_index l =
    (map msg_lines l.messages.items ++ messages_of l.conn l.role (take l.entry_index l.entries) (drop l.entry_index l.entries) ≡ map msg_lines l.fn.messages.items ++ messages_of l.conn l.fn.first (take l.from l.entries) (drop l.from l.entries))
    × (role_past l.conn l.role (drop l.entry_index l.entries) ≡ role_past l.conn l.fn.first (drop l.from l.entries))
