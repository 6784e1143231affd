-- The table of lines: the line of each event, and who is shown it.
use Rattle.std.specs.Prelude.{ℕ, Bool, true, false, not, ◌&&◌, List, codes, Option, Some, None, if◌then◌else◌}
use Rattle.ps_event.specs.declared.event.Event.{Event}
use Rattle.ps_event.specs.declared.event.Event.TheVariants as events
use Rattle.ps_event.specs.Table.{audience_of}
use Rattle.ps_dex.specs.declared.item.Tables.{Tables}
use Rattle.ps_view.specs.declared.names.Names.{Names}
use Rattle.ps_view.specs.declared.role.Role.{Role}
use Rattle.ps_view.specs.Roles.{has_role, reads_exactly}
use Rattle.ps_view.specs.Rows.{about, player_line, team_size_line, tier_line, rule_line, poke_line, switch_line, move_line, cant_line}
use Rattle.ps_view.specs.Rows.{damage_line, heal_line}
use Rattle.ps_view.specs.Rows.{status_line, cure_line, boost_line, unboost_line, start_line, end_line, activate_line, prepare_line}
use Rattle.ps_view.specs.Rows.{transform_line, hit_count_line}
use Rattle.ps_view.specs.Rows.{turn_line, forfeit_line, win_line}

-- The line of an event, with health in its exact form or its public one. A request has none here: its room makes it when
-- it asks.
unfoldable pub row_of : Bool → Names → Tables → Event → List ℕ
row_of exact names dex (events.Player side) = player_line names side
row_of exact names dex (events.TeamSize side count) = team_size_line side count
row_of exact names dex events.GameType = codes "|gametype|singles"
row_of exact names dex events.Gen = codes "|gen|1"
row_of exact names dex events.Tier = tier_line names
row_of exact names dex (events.Rule clause) = rule_line clause
row_of exact names dex events.ClearPoke = codes "|clearpoke"
row_of exact names dex (events.Poke side species level) = poke_line dex side species level
row_of exact names dex events.TeamPreview = codes "|teampreview"
row_of exact names dex events.Start = codes "|start"
row_of exact names dex (events.Switch who species level health) = switch_line exact names dex who species level health
row_of exact names dex (events.Move who mv target still from) = move_line names dex who mv target still from
row_of exact names dex (events.Cant who reason) = cant_line names who reason
row_of exact names dex (events.Damage who health from) = damage_line exact names who health from
row_of exact names dex (events.Heal who health) = heal_line exact names who health
row_of exact names dex (events.Status who status) = status_line names who status
row_of exact names dex (events.CureStatus who status) = cure_line names who status
row_of exact names dex (events.Boost who stat by) = boost_line names who stat by
row_of exact names dex (events.Unboost who stat by) = unboost_line names who stat by
row_of exact names dex (events.Crit who) = about (codes "-crit") names who
row_of exact names dex (events.Super who) = about (codes "-supereffective") names who
row_of exact names dex (events.Resisted who) = about (codes "-resisted") names who
row_of exact names dex (events.Immune who) = about (codes "-immune") names who
row_of exact names dex (events.Miss who) = about (codes "-miss") names who
row_of exact names dex (events.Fail who) = about (codes "-fail") names who
row_of exact names dex (events.VolStart who effect mv) = start_line names dex who effect mv
row_of exact names dex (events.VolEnd who effect) = end_line names dex who effect
row_of exact names dex (events.Activate who effect mv) = activate_line names dex who effect mv
row_of exact names dex (events.MustRecharge who) = about (codes "-mustrecharge") names who
row_of exact names dex (events.Prepare who mv) = prepare_line names dex who mv
row_of exact names dex (events.Transform who target) = transform_line names who target
row_of exact names dex (events.HitCount who hits) = hit_count_line names who hits
row_of exact names dex events.ClearAll = codes "|-clearallboost"
row_of exact names dex (events.Faint who) = about (codes "faint") names who
row_of exact names dex events.Upkeep = codes "|upkeep"
row_of exact names dex (events.Turn turn) = turn_line turn
row_of exact names dex (events.Forfeit side) = forfeit_line names side
row_of exact names dex (events.Win side) = win_line names side
row_of exact names dex events.Tie = codes "|tie"
row_of exact names dex (events.Request side) = codes ""

abbrev pub is_request : Event → Bool
is_request (events.Request side) = true
is_request other = false

-- whether a role is shown a line for the event
abbrev pub is_shown : Event → Role → Bool
is_shown event role = has_role (audience_of event) role && not (is_request event)

-- the line of an event for a role, if it is shown one
unfoldable pub line_of : Event → Role → Names → Tables → Option (List ℕ)
line_of event role names dex =
    if is_shown event role then Some (row_of (reads_exactly (audience_of event) role) names dex event) else None
