use Rattle.std.proofs.Common.{◌≡◌}
use Rattle.tests_mailbox.proofs.mailbox_tests.take_all.Given as goal

abbrev pub invariant-loop : goal.invariant-loop
invariant-loop g l = l.drain.mailbox ≡ l.initial.drain.mailbox
