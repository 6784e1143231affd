-- Lookups in a room.
use Rattle.std.specs.Prelude.{ℕ, ◌+◌, ◌-◌, Bool, false, List, length, find, Option, Some, None, unwrap_or, nat_lt, ◌==◌}
use Rattle.std.specs.Str.{bytes_eq}
use Rattle.std.specs.FinMap.{get, contains_key}
use Rattle.ps_base.specs.Ids.{id_of}
use Rattle.ps_base.specs.declared.badge.Badge.{Badge}
use Rattle.ps_group.specs.Ranks.{higher, is_below, in_force}
use Rattle.ps_group.specs.declared.group.Group.{Group}
use Rattle.ps_base.specs.ById.{ById}
use Rattle.ps_lines.specs.SentTexts.{is_long}
use Rattle.ps_chat.specs.declared.lookup.TheConstants.{MUTE_SECONDS}
use Rattle.ps_chat.specs.declared.present.Present.{Present}

-- the member of a connection
abbrev pub member : ℕ → List Present → Option Present
member conn ps = find (λ present. present.conn == conn) ps

-- whether a member has an id
abbrev pub has_id : List ℕ → Present → Bool
has_id id present = bytes_eq (id_of present.badge.name) id

-- the first member with an id
abbrev pub user : List ℕ → List Present → Option Present
user id ps = find (has_id id) ps

-- the rank of the last group
abbrev pub lowest : List Group → ℕ
lowest groups = length groups - 1

-- the room rank of an id, or else the lowest
abbrev pub room_rank : List Group → ById ℕ → List ℕ → ℕ
room_rank groups ranks id = unwrap_or (get ranks id) (lowest groups)

-- the badge of a Join, as it is kept: a rank past the list of groups counts as the last group's
abbrev pub kept : List Group → Badge → Badge
kept groups badge = record { name = badge.name; rank = in_force badge.rank groups }

-- the higher of a badge's rank and the room rank of its id
abbrev pub rank_with : List Group → ById ℕ → Badge → ℕ
rank_with groups ranks badge = higher badge.rank (room_rank groups ranks (id_of badge.name))

-- A mute that began at a moment holds for `MUTE_SECONDS`, and at every moment before it.
abbrev pub mute_holds : ℕ → Option ℕ → Bool
mute_holds moment None = false
mute_holds moment (Some start) = nat_lt moment (start + MUTE_SECONDS)

abbrev pub is_muted : ById ℕ → ℕ → List ℕ → Bool
is_muted mutes moment id = mute_holds moment (get mutes id)

abbrev pub is_banned : ById (Unit {0}) → List ℕ → Bool
is_banned bans id = contains_key bans id

-- whether a rank is below the room's level
abbrev pub is_below_level : ℕ → Option ℕ → Bool
is_below_level rank None = false
is_below_level rank (Some level) = is_below rank level

abbrev pub is_long_reason : Option (List ℕ) → Bool
is_long_reason None = false
is_long_reason (Some text) = is_long text
