use Rattle.std.proofs.Common.{◌≡◌}
use Rattle.tests_serve.proofs.lock_tests.fill.Given as goal

abbrev pub invariant-loop-n : goal.invariant-loop-n
invariant-loop-n l = l.pass.0 ≡ l.initial.pass.0
