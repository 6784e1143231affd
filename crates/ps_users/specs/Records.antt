-- The users of a hall.
use Rattle.std.specs.Prelude.{ℕ, List}
use Rattle.std.specs.FinMap.{empty}
use Rattle.ps_base.specs.ById.{ById}
use Rattle.ps_users.specs.Seats.{Seats, Seated}
use Rattle.ps_users.specs.declared.account.Account.{Account}

-- The text that challenges begin with; the registered names by id; the ranks that ids were given, which go before those of
-- the registered names; the rank of everyone else; the open connections, each with its badge once it has a name; and the
-- connection of each id that is online.
pub record Record : Type 0 where
  pub nonce : List ℕ
  pub accounts : ById Account
  pub ranks : ById ℕ
  pub lowest : ℕ
  pub seats : Seats
  pub online : ById ℕ

-- nobody is connected
abbrev pub nobody : List ℕ → ById Account → ById ℕ → ℕ → Record
nobody nonce accounts ranks lowest = record
    { nonce = nonce; accounts = accounts; ranks = ranks; lowest = lowest; seats = empty; online = empty }

-- the connections
abbrev pub seated : Record → Seated
seated users = record { seats = users.seats; online = users.online }

-- the same users with other connections
abbrev pub with_seats : Record → Seated → Record
with_seats users connections = record users { seats = connections.seats; online = connections.online }
