use Rattle.std.proofs.Common.{◌≡◌, drop}
use Rattle.ps_hall.specs.Accounts.{accounts_from}
use Rattle.ps_hall.proofs.account.add_accounts.Given as goal

abbrev pub invariant-loop-user : goal.invariant-loop-user
invariant-loop-user l = accounts_from l.accounts (drop l.user-index l.users) ≡ accounts_from l.fn.accounts l.users
