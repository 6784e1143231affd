-- The registered names of a configuration, by their ids.
use Rattle.std.specs.Prelude.{List, [], ◌∷◌}
use Rattle.std.specs.FinMap.{insert, empty}
use Rattle.rules_config.specs.declared.settings.Registered.{Registered}
use Rattle.ps_base.specs.ById.{ById}
use Rattle.ps_users.specs.declared.account.Account.{Account}

abbrev pub account_of : Registered → Account
account_of user = record { secret = user.secret; rank = user.rank }

abbrev pub accounts_from : ById Account → List Registered → ById Account
accounts_from accounts [] = accounts
accounts_from accounts (user ∷ users) = accounts_from (insert accounts user.id (account_of user)) users

-- no two registered names have one id
abbrev pub accounts_of : List Registered → ById Account
accounts_of users = accounts_from empty users
