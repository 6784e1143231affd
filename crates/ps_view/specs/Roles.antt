-- What a connection is to a room, and what it is shown.
use Rattle.std.specs.Prelude.{ℕ, Bool, true, false, nat_le}
use Rattle.ps_event.specs.declared.audience.Audience.{Audience}
use Rattle.ps_event.specs.declared.audience.Audience.TheVariants as audiences
use Rattle.ps_event.specs.declared.side.Side.{Side}
use Rattle.ps_event.specs.declared.side.Side.TheVariants.{P1, P2}
use Rattle.ps_view.specs.declared.role.Role.{Role}
use Rattle.ps_view.specs.declared.role.Role.TheVariants.{Outside, Spectator, Player}

-- the player of this side
abbrev pub is_player : Side → Role → Bool
is_player side Outside = false
is_player side (Spectator rank) = false
is_player P1 (Player P1 rank) = true
is_player P1 (Player P2 rank) = false
is_player P2 (Player P1 rank) = false
is_player P2 (Player P2 rank) = true

-- a player or a spectator
abbrev pub is_member : Role → Bool
is_member Outside = false
is_member (Spectator rank) = true
is_member (Player side rank) = true

-- a member of this rank or a higher one, whose number is lower
abbrev pub is_ranked : ℕ → Role → Bool
is_ranked lowest Outside = false
is_ranked lowest (Spectator rank) = nat_le rank lowest
is_ranked lowest (Player side rank) = nat_le rank lowest

-- What is split is for every member, in one form or the other. What is for one connection is for no role.
abbrev pub has_role : Audience → Role → Bool
has_role audiences.All role = is_member role
has_role (audiences.Split side) role = is_member role
has_role (audiences.Side side) role = is_player side role
has_role (audiences.Rank lowest) role = is_ranked lowest role
has_role (audiences.One conn) role = false

-- the player of a side reads what is split by it exactly; all others, staff too, read its public form
abbrev pub reads_exactly : Audience → Role → Bool
reads_exactly (audiences.Split side) role = is_player side role
reads_exactly other role = false
