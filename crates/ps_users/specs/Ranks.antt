-- The ranks of users.
use Rattle.std.specs.Prelude.{ℕ, List, Option, Some, None, nat_lt, unwrap_or, if◌then◌else◌}
use Rattle.std.specs.FinMap.{get}
use Rattle.ps_users.specs.Records.{Record}
use Rattle.ps_users.specs.declared.account.Account.{Account}

-- a rank past the lowest counts as the lowest
abbrev pub capped : ℕ → ℕ → ℕ
capped lowest rank = if nat_lt lowest rank then lowest else rank

-- the rank of a registered name, and the lowest of any other
abbrev pub registered_rank : ℕ → Option Account → ℕ
registered_rank lowest None = lowest
registered_rank lowest (Some account) = account.rank

-- the rank of an id
abbrev pub rank_of : Record → List ℕ → ℕ
rank_of users id = capped users.lowest (unwrap_or (get users.ranks id) (registered_rank users.lowest (get users.accounts id)))
