use Rattle.std.proofs.Common.{◌≡◌}
use Rattle.ps_hub.specs.Hubs.{Hub}
use Rattle.ps_hub.specs.Passes.{IsRoomPass}
use Rattle.server_pass.specs.Turns.{Rereads}
use Rattle.ps_hub.proofs.quit.quit_by_room_pass.Given as goal

abbrev pub invariant-loop : goal.invariant-loop
invariant-loop g l =
    (goal.iterator-loop g).can_next l.iterator' × (goal.iterator-loop g).is_finite l.iterator'
    × (l.pass.pass.0 ≡ l.initial.pass.pass.0) × ((hub : Hub) → IsRoomPass hub l.conn l.initial.pass → IsRoomPass hub l.conn l.pass)
    × Rereads l.initial.pass.pass.1 l.pass.pass.1
    × (l.pass.at ≡ l.initial.pass.at) × (l.pass.cursor ≡ l.initial.pass.cursor) × (l.pass.number ≡ l.initial.pass.number) × (l.pass.id ≡ l.initial.pass.id)
