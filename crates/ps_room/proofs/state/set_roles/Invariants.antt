use Rattle.std.proofs.Common.{◌≡◌, ◌++◌, map, take, drop}
use Rattle.std.specs.Option.{option_copied}
use Rattle.ps_room.specs.Logs.{change_in, changed_conn}
use Rattle.ps_room.proofs.state.set_roles.Given as goal

abbrev pub invariant-loop-change : goal.invariant-loop-change
invariant-loop-change l = l.changes ≡ map (λ c. change_in (option_copied l.cast) l.chat.opening l.chat.state (changed_conn c)) (take l.change-index l.fn.changes) ++ drop l.change-index l.fn.changes
