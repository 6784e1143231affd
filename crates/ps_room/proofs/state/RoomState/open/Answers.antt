use Rattle.std.proofs.Common.{rules}
use Rattle.ps_room.proofs.OpenedLemmas.{first_so, opened_so}
use Rattle.ps_room.proofs.state.RoomState.open.Goals as goal

pub returns-clause-state : goal.returns-clause-state
returns-clause-state c =
    opened_so c.into_parts-no.result c.args.opening c.in_ok-chat.chat c.in_ok-battle.field-0.battle c.deref-3.result.now
    (record { title = c.as_str.result.now; battle = c.is_some.result; groups = c.groups.result.now; staff = c.staff.result })
    c.into_parts-no.ensures c.in_ok-chat.ensures (search rules) (search rules) (search rules) (search rules) (search rules) (search rules)

pub returns-clause-first : goal.returns-clause-first
returns-clause-first c = first_so c.into_parts-no.result c.args.opening _ c.deref-3.result.now c.into_parts-no.ensures c.in_ok-battle.ensures.first (search rules)
