-- What is stored of the lines of an entry, and what a connection is shown of a stored line.
use Rattle.std.specs.Prelude.{ℕ, Bool, List, ◌++◌, map, Option, Some, None, ◌==◌, if◌then◌else◌}
use Rattle.std.specs.List.{filter_map}
use Rattle.ps_event.specs.declared.audience.Audience.{Audience}
use Rattle.ps_event.specs.declared.audience.Audience.TheVariants as audiences
use Rattle.ps_event.specs.declared.event.Event.{Event}
use Rattle.ps_event.specs.declared.line.ChatLine.{ChatLine}
use Rattle.ps_event.specs.declared.side.Side.{Side}
use Rattle.ps_event.specs.Table.{audience_of, is_logged}
use Rattle.ps_dex.specs.declared.item.Tables.{Tables}
use Rattle.ps_view.specs.declared.names.Names.{Names}
use Rattle.ps_view.specs.declared.role.Role.{Role}
use Rattle.ps_view.specs.declared.role.Role.TheVariants.{Spectator, Player}
use Rattle.ps_view.specs.Roles.{is_player, is_member, has_role}
use Rattle.ps_view.specs.Lines.{line_of}
use Rattle.ps_splitlog.specs.declared.stored.Stored.{Stored}
use Rattle.ps_splitlog.specs.declared.stored.Stored.TheVariants.{Same, Split}

-- ---- what is stored

-- a line that is text already
abbrev pub Line : Type 0
Line = ChatLine (List ℕ)

-- in its two texts, where it has both
abbrev pub split_line : Side → Bool → Option (List ℕ) → Option (List ℕ) → Option Stored
split_line side logged (Some secret) (Some public) = Some (Split side logged secret public)
split_line side logged (Some secret) None = None
split_line side logged None public = None

abbrev pub same_line : Audience → Bool → Option (List ℕ) → Option Stored
same_line audience logged (Some text) = Some (Same audience logged text)
same_line audience logged None = None

-- what is split by a side: its line for the player of the side, and that for a spectator; what isn't: that for a spectator
abbrev pub stored_by : Audience → Names → Tables → Event → Option Stored
stored_by (audiences.Split side) names dex event = split_line side (is_logged event) (line_of event (Player side 0) names dex)
    (line_of event (Spectator 0) names dex)
stored_by audiences.All names dex event = same_line audiences.All (is_logged event) (line_of event (Spectator 0) names dex)
stored_by (audiences.Side side) names dex event = same_line (audiences.Side side) (is_logged event) (line_of event (Spectator 0) names dex)
stored_by (audiences.Rank lowest) names dex event = same_line (audiences.Rank lowest) (is_logged event)
    (line_of event (Spectator 0) names dex)
stored_by (audiences.One conn) names dex event = same_line (audiences.One conn) (is_logged event) (line_of event (Spectator 0) names dex)

-- what is stored of an event; of a request nothing
unfoldable pub stored_of_event : Names → Tables → Event → Option Stored
stored_of_event names dex event = stored_by (audience_of event) names dex event

abbrev pub stored_of_line : Line → Stored
stored_of_line line = Same line.audience line.logged line.text

-- what is stored of an entry's events and lines, the events first
abbrev pub stored_of : Names → Tables → List Event → List Line → List Stored
stored_of names dex events ls = filter_map (stored_of_event names dex) events ++ map stored_of_line ls

-- whether it stands in the backlog from then on
abbrev pub is_logged_line : Stored → Bool
is_logged_line (Same audience logged text) = logged
is_logged_line (Split side logged secret public) = logged

-- ---- what is shown

-- a line for one connection is seen by it, member or not; each other line by who has its audience
abbrev pub sees : ℕ → Role → Audience → Bool
sees conn role (audiences.One other) = conn == other
sees conn role audiences.All = has_role audiences.All role
sees conn role (audiences.Split side) = has_role (audiences.Split side) role
sees conn role (audiences.Side side) = has_role (audiences.Side side) role
sees conn role (audiences.Rank lowest) = has_role (audiences.Rank lowest) role

-- What a connection in this role is shown of a stored line. Of a split one the player of its side reads the secret text,
-- every other member the public one, and who is outside none.
abbrev pub shown : ℕ → Role → Stored → Option (List ℕ)
shown conn role (Same audience logged text) = if sees conn role audience then Some text else None
shown conn role (Split side logged secret public) = if is_member role then Some (if is_player side role then secret else public) else None

abbrev pub shown_if : ℕ → Role → Option Stored → Option (List ℕ)
shown_if conn role None = None
shown_if conn role (Some stored) = shown conn role stored

-- of several
abbrev pub shown_lines : ℕ → Role → List Stored → List (List ℕ)
shown_lines conn role ls = filter_map (shown conn role) ls
