use Rattle.std.proofs.Common.{◌≡◌, ◌≤◌, ℕ}
use Rattle.ps_histlock.specs.Seated.{TableId}
use Rattle.server_pass.specs.Passes.{Grows, IsPass}
use Rattle.server_pass.specs.Turns.{Rereads}
use Rattle.server_pass.proofs.pass.PlacePass+Pass+K+K+Cursor+N+I.pull_up_to.Given as goal

abbrev pub invariant-loop : goal.invariant-loop
invariant-loop g l =
    (goal.iterator-loop g).can_next l.iterator' × (goal.iterator-loop g).is_finite l.iterator'
    × (l.self.pass.0 ≡ l.initial.self.pass.0)
    × ((conn : ℕ) (place : TableId × g.row.K-Origin.Denot) → IsPass g.K.Kept.origin g.K.Kept.stands g.K.Kept.signer g.K.Told.telling conn place l.initial.self → IsPass g.K.Kept.origin g.K.Kept.stands g.K.Kept.signer g.K.Told.telling conn place l.self)
    × Rereads l.initial.self.pass.1 l.self.pass.1 × (l.shown ≤ g.K.Told.telling.passed l.initial.self.cursor → l.self ≡ l.initial.self)
    × (l.self.at ≡ l.initial.self.at) × (l.self.number ≡ l.initial.self.number) × (l.self.id ≡ l.initial.self.id)
    × Grows l.initial.self.pass.1 l.self.pass.1
