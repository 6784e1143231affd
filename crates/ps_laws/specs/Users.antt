-- The users of a connection, and the sides of a battle that are its own.
use Rattle.std.specs.Prelude.{ℕ, Bool, ◌==◌, if◌then◌else◌, List, [], ◌∷◌, ◌++◌, Option, Some, None}
use Rattle.std.specs.List.{list_any}
use Rattle.ps_base.specs.Ids.{id_of}
use Rattle.ps_base.specs.declared.badge.Badge.{Badge}
use Rattle.ps_view.specs.declared.names.Names.{Names}
use Rattle.ps_hits.specs.Told.{side_name}
use Rattle.battle_rounds.specs.Casts.{plays}
use Rattle.ps_chat.specs.Lookups.{member}
use Rattle.ps_chat.specs.declared.present.Present.{Present}
use Rattle.ps_room.specs.declared.entry.Entry.{Entry}
use Rattle.ps_room.specs.Records.{Record, presents_of}
use Rattle.ps_room.specs.Rooms.{after}
use Rattle.ps_room.specs.Stories.{Story, begun}

-- by the badge of its Join while it is a member, and by the badge that it brings otherwise
abbrev pub badge_of : Option Present → Badge → Badge
badge_of None brought = brought
badge_of (Some me) brought = me.badge

-- the id of who makes an entry
abbrev pub user_of : Record → Entry → List ℕ
user_of room entry = id_of (badge_of (member entry.conn (presents_of room)) entry.badge).name

-- the ids of a connection's entries in a history, from a record on
abbrev pub users_from : ℕ → Record → List Entry → List (List ℕ)
users_from conn room [] = []
users_from conn room (entry ∷ entries) = (if entry.conn == conn then user_of room entry ∷ [] else [])
    ++ users_from conn (after room entry) entries

-- the users of a connection in a story
abbrev pub users : ℕ → Story → List (List ℕ)
users conn story = users_from conn (begun story) story.history

-- a side is the connection's own where its player's id is one of its users
abbrev pub is_own_side : List (List ℕ) → Names → ℕ → Bool
is_own_side ids names side = list_any (plays names (side_name side)) ids
