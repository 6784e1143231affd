use Rattle.std.proofs.Common.{◌≡◌, List, Some, slice_get, sym, subst}
use Rattle.ps_hub.specs.Passes.{RoomPass}
use Rattle.tests_serve.proofs.connection.holds.Goals as goal

pub returns-in-Some : goal.returns-in-Some
returns-in-Some c = λ held.
    let all = c.deref.ensures.value in
    let first = sym (rw c.in-Some.is at c.first.ensures.value) in
    (0, c.in-Some.pass.now, subst (λ (rooms : List RoomPass). slice_get rooms 0 ≡ Some c.in-Some.pass.now) all first, c.is_held.ensures held)
