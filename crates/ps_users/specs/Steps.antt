-- What the commands Open, Quit and Name change.
use Rattle.std.specs.Prelude.{ℕ, List, Option, Some, None}
use Rattle.std.specs.Option.{option_map}
use Rattle.ps_base.specs.Ids.{id_of}
use Rattle.ps_base.specs.declared.badge.Badge.{Badge}
use Rattle.ps_lines.specs.declared.command.HallCmd.{HallCmd}
use Rattle.ps_lines.specs.declared.command.HallCmd.TheVariants.{Open, Quit, Name}
use Rattle.ps_users.specs.Ranks.{rank_of}
use Rattle.ps_users.specs.Records.{Record, seated, with_seats}
use Rattle.ps_users.specs.Refusals.{read_of}
use Rattle.ps_users.specs.Seats.{opened, closed, named}

-- the badge that goes with a name
abbrev pub badge_for : Record → List ℕ → Badge
badge_for users name = record { name = name; rank = rank_of users (id_of name) }

abbrev pub with_name : Record → ℕ → Option (List ℕ) → Record
with_name users conn None = users
with_name users conn (Some name) = with_seats users (named (seated users) conn (badge_for users name))

-- the users after an allowed command
abbrev pub after : Record → ℕ → HallCmd → Record
after users conn Open = with_seats users (opened (seated users) conn)
after users conn Quit = with_seats users (closed (seated users) conn)
after users conn (Name name assertion) = with_name users conn (read_of name)
after users conn other = users

-- the badge that an allowed command gives
abbrev pub granted : Record → HallCmd → Option Badge
granted users (Name name assertion) = option_map (badge_for users) (read_of name)
granted users other = None
