use Rattle.std.proofs.Common.{◌≡◌, ◌++◌, ℕ, List}
use Rattle.ps_histlock.specs.Turns.{AreVain}
use Rattle.ps_histlock.proofs.lock.HistLock.read.Given as goal

abbrev pub invariant-loop : goal.invariant-loop
invariant-loop g l =
    (goal.iterator-loop g).can_next l.iterator' × (goal.iterator-loop g).is_finite l.iterator'
    × (l.pass.0 ≡ l.initial.pass.0) × (l.cursor ≡ l.initial.cursor)
    × ((tries : ℕ) × (words : List ℕ) × AreVain tries words × (l.pass.1 ≡ record l.initial.pass.1 { met = l.initial.pass.1.met ++ words }))
