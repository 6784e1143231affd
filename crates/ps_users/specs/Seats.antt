-- The open connections, and which of them has an id.
use Rattle.std.specs.Prelude.{◌≡◌, ℕ, Bool, List, Option, Some, None, is_some}
use Rattle.std.specs.Option.{option_and_then, option_map}
use Rattle.std.specs.FinMap.{get, insert, remove}
use Rattle.ps_base.specs.Ids.{id_of}
use Rattle.ps_base.specs.declared.badge.Badge.{Badge}
use Rattle.ps_base.specs.ById.{ById}
use Rattle.ps_users.specs.ByConn.{ByConn}

-- the open connections, each with its badge once it has a name
abbrev pub Seats : Type 0
Seats = ByConn (Option Badge)

-- the open connections, and the connection of each id that is online
pub record Seated : Type 0 where
  pub seats : Seats
  pub online : ById ℕ

-- whether a connection is open
abbrev pub is_seat : Seats → ℕ → Bool
is_seat seats conn = is_some (get seats conn)

-- the badge of a connection, once it has a name
abbrev pub badge_in : Seats → ℕ → Option Badge
badge_in seats conn = option_and_then (λ seat. seat) (get seats conn)

-- the id of a connection, once it has a name
abbrev pub id_in : Seats → ℕ → Option (List ℕ)
id_in seats conn = option_map (λ badge. id_of badge.name) (badge_in seats conn)

-- An id is online on a connection exactly where the badge of that open connection has the id.
pub record Agrees (connections : Seated) : Type 0 where
  pub seated : (id : List ℕ) (conn : ℕ) → get connections.online id ≡ Some conn → id_in connections.seats conn ≡ Some id
  pub found : (id : List ℕ) (conn : ℕ) → id_in connections.seats conn ≡ Some id → get connections.online id ≡ Some conn

-- a connection opens; one that is open stays as it is
abbrev pub opened_by : Option (Option Badge) → Seats → ℕ → Seats
opened_by None seats conn = insert seats conn None
opened_by (Some seat) seats conn = seats

abbrev pub opened : Seated → ℕ → Seated
opened connections conn = record { seats = opened_by (get connections.seats conn) connections.seats conn; online = connections.online }

-- the id of who leaves is online no more
abbrev pub without : Option Badge → ById ℕ → ById ℕ
without None online = online
without (Some badge) online = remove online (id_of badge.name)

abbrev pub closed : Seated → ℕ → Seated
closed connections conn = record {
  seats = remove connections.seats conn;
  online = without (badge_in connections.seats conn) connections.online;
}

-- a connection takes its badge
abbrev pub named : Seated → ℕ → Badge → Seated
named connections conn badge = record {
  seats = insert connections.seats conn (Some badge);
  online = insert connections.online (id_of badge.name) conn;
}
