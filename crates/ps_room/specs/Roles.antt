-- What a connection is to a room, and what it sees there.
use Rattle.std.specs.Prelude.{ℕ, Bool, Option, Some, None, ◌==◌}
use Rattle.ps_base.specs.Ids.{id_of}
use Rattle.ps_event.specs.declared.audience.Audience.{Audience}
use Rattle.ps_event.specs.declared.audience.Audience.TheVariants.{All, Split, Side, Rank, One}
use Rattle.ps_chat.specs.declared.present.Present.{Present}
use Rattle.ps_view.specs.declared.role.Role.{Role}
use Rattle.ps_view.specs.declared.role.Role.TheVariants.{Outside, Spectator}
use Rattle.ps_view.specs.Roles.{has_role}
use Rattle.battle_rounds.specs.Casts.{Cast, side_with_id, role_with}

-- what a member is: a spectator, or the player of a side where its id is that of one
abbrev pub role_of_member : Option Cast → Present → Role
role_of_member None present = Spectator present.rank
role_of_member (Some cast) present = role_with cast.names (id_of present.badge.name) present.rank

-- by the connection's member
abbrev pub role_of : Option Cast → Option Present → Role
role_of cast None = Outside
role_of cast (Some present) = role_of_member cast present

-- the side that a connection's member plays
abbrev pub side_of_member : Cast → Option Present → Option ℕ
side_of_member cast None = None
side_of_member cast (Some present) = side_with_id cast.names (id_of present.badge.name)

-- a line for one connection is seen by it, member or not; each other line by who has its audience
abbrev pub sees : ℕ → Role → Audience → Bool
sees conn role (One other) = conn == other
sees conn role All = has_role All role
sees conn role (Split side) = has_role (Split side) role
sees conn role (Side side) = has_role (Side side) role
sees conn role (Rank lowest) = has_role (Rank lowest) role
