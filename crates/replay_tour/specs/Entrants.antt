-- How the users of a tournament come: they open, take their names and set their teams.
use Rattle.std.specs.Prelude.{ℕ, zero, suc, List, [], ◌∷◌, ◌++◌, codes, Option, Some, None, if◌then◌else◌}
use Rattle.std.specs.Fmt.{decimal}
use Rattle.std.specs.Str.{bytes_eq}
use Rattle.ps_users.specs.Assertions.{challstr_of, assertion_of}
use Rattle.rules_config.specs.declared.settings.Registered.{Registered}
use Rattle.rules_config.specs.declared.settings.Settings.{Settings}
use Rattle.replay_script.specs.declared.item.Item.{Item}
use Rattle.replay_script.specs.declared.item.Item.TheVariants.{Open, Send}

-- a line of each of so many connections, from 1 on, in order
abbrev pub each_line : (ℕ → Item) → ℕ → List Item
each_line line zero = []
each_line line (suc count) = each_line line count ++ line (suc count) ∷ []

-- the name of the user of a connection, which is its id too
abbrev pub user_name : ℕ → List ℕ
user_name conn = codes "u" ++ decimal conn

-- ---- the assertion that a name takes

-- who is registered under an id
abbrev pub registered : List ℕ → List Registered → Option Registered
registered id [] = None
registered id (user ∷ users) = if bytes_eq user.id id then Some user else registered id users

abbrev pub assertion_by : List ℕ → ℕ → Option Registered → List ℕ
assertion_by nonce conn None = []
assertion_by nonce conn (Some user) = assertion_of (challstr_of nonce conn) user.secret

-- the empty one, unless the name is registered
abbrev pub assertion : Settings → ℕ → List ℕ
assertion config conn = assertion_by config.nonce conn (registered (user_name conn) config.users)

-- ---- their lines

-- a connection takes its name
abbrev pub name_line : Settings → ℕ → Item
name_line config conn = Send conn (codes "|/trn u" ++ decimal conn ++ codes ",0," ++ assertion config conn)

-- and sets the team
abbrev pub team_line : List ℕ → ℕ → Item
team_line team conn = Send conn (codes "|/utm " ++ team)

-- so many users open, then take their names, and then set the same team
abbrev pub entering : Settings → List ℕ → ℕ → List Item
entering config team users = each_line Open users ++ each_line (name_line config) users ++ each_line (team_line team) users
