use Rattle.std.proofs.Common.{◌<◌, ℕ, length, get_or, ap, arith}
use Rattle.std.specs.Option.{option_copied}
use Rattle.ps_view.specs.declared.role.Role.{Role}
use Rattle.ps_room.specs.Logs.{change_in, changed_conn}
use Rattle.ps_room.proofs.ChangeLemmas.{set_next}
use Rattle.ps_room.proofs.state.set_roles.Goals as goal

pub loop-change-preserved : goal.loop-change-preserved
loop-change-preserved c =
    let lt : c.loop-change.change-index < length c.args.changes.now = omega arith in
    set_next (λ (x : ℕ × Role). change_in (option_copied c.args.cast) c.args.chat.now.opening c.args.chat.now.state (changed_conn x)) c.args.changes.now c.loop-change.changes c.loop-change.change-index c.change-item.result _ lt c.loop-change.invariant
    (ap (λ (role : Role). ((get_or c.loop-change.changes c.loop-change.change-index c.change-item.result).0, role)) c.role_in-change.ensures)
