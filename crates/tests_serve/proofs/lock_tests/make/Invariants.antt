use Rattle.std.proofs.Common.{◌≡◌}
use Rattle.tests_serve.proofs.lock_tests.make.Given as goal

abbrev pub invariant-loop-n : goal.invariant-loop-n
invariant-loop-n g l = l.pass.0 ≡ l.lock.0
