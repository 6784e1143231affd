-- What the lines of a battle name, and what a member is to it.
use Rattle.std.specs.Prelude.{ℕ, Bool, List, Option, Some, None, if◌then◌else◌}
use Rattle.std.specs.List.{filter_map}
use Rattle.std.specs.Str.{bytes_eq}
use Rattle.ps_base.specs.Ids.{id_of}
use Rattle.ps_dex.specs.declared.item.Tables.{Tables}
use Rattle.ps_event.specs.declared.event.Event.{Event}
use Rattle.ps_event.specs.declared.side.Side.{Side}
use Rattle.ps_event.specs.declared.side.Side.TheVariants.{P1, P2}
use Rattle.ps_hits.specs.Told.{side_name}
use Rattle.ps_view.specs.declared.names.Names.{Names}
use Rattle.ps_view.specs.declared.role.Role.{Role}
use Rattle.ps_view.specs.declared.role.Role.TheVariants.{Spectator, Player}
use Rattle.ps_view.specs.Named.{player_of}
use Rattle.ps_view.specs.Lines.{line_of}

pub record Cast : Type 0 where
  pub names : Names
  pub dex : Tables

-- an id is that of the player of a side
abbrev pub plays : Names → Side → List ℕ → Bool
plays names side id = bytes_eq (id_of (player_of names side)) id

-- the side, 0 or 1, whose player has an id
abbrev pub side_with_id : Names → List ℕ → Option ℕ
side_with_id names id = if plays names P1 id then Some 0 else (if plays names P2 id then Some 1 else None)

abbrev pub player_or_spectator : Option ℕ → ℕ → Role
player_or_spectator None rank = Spectator rank
player_or_spectator (Some side) rank = Player (side_name side) rank

-- what a member with this id and this rank is to the battle
abbrev pub role_with : Names → List ℕ → ℕ → Role
role_with names id rank = player_or_spectator (side_with_id names id) rank

abbrev pub event_text : Cast → Role → Event → Option (List ℕ)
event_text cast role event = line_of event role cast.names cast.dex

-- the lines of events that a role is shown
abbrev pub event_texts : Cast → Role → List Event → List (List ℕ)
event_texts cast role events = filter_map (event_text cast role) events
