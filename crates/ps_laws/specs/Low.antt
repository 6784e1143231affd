-- Low histories: what a connection may know of a room's history. Each entry is turned into items, over the record before it.
use Rattle.std.specs.Prelude.{ℕ, Bool, ◌||◌, ◌==◌, if◌then◌else◌, List, [], ◌∷◌, ◌++◌, Option, Some, None}
use Rattle.std.specs.List.{list_any}
use Rattle.std.specs.Str.{bytes_eq}
use Rattle.ps_base.specs.declared.badge.Badge.{Badge}
use Rattle.ps_base.specs.declared.why.Why.{Why}
use Rattle.ps_lines.specs.declared.command.Command.{Command}
use Rattle.ps_lines.specs.declared.command.Command.TheVariants.{Join, Modnote, Choose, Undo}
use Rattle.ps_mon.specs.declared.choice.Choice.{Choice}
use Rattle.ps_chat.specs.declared.present.Present.{Present}
use Rattle.ps_room.specs.declared.entry.Entry.{Entry}
use Rattle.ps_room.specs.Records.{Record}
use Rattle.ps_room.specs.Rooms.{sender_of, verdict, after}
use Rattle.ps_room.specs.Unseen.{sees_notes}
use Rattle.ps_room.specs.Stories.{Story, begun}
use Rattle.ps_laws.specs.Users.{user_of, users}
use Rattle.ps_laws.specs.Rounds.{Round, round_of}

-- ---- items

-- what is kept of an entry: all of it, but for a badge that nothing looks at; or the two choices of the round that it completes
pub data Item : Type 0 where
  whole : Entry → Item
  commit : Choice → Choice → Item

-- in the place of a badge
abbrev pub no_badge : Badge
no_badge = record { name = []; rank = 0 }

-- A room looks at the badge that an entry brings only at a Join of who is no member yet, which is answered by it, and whose member keeps
-- it. A member is who it was at its Join, and who is no member does nothing else by a badge.
abbrev pub looked_at : Command → Option Present → Badge → Badge
looked_at (Join room) None badge = badge
looked_at cmd me badge = no_badge

-- an entry without a badge that nothing looks at
abbrev pub entry_kept : Record → Entry → Entry
entry_kept room entry = record entry { badge = looked_at entry.cmd (sender_of room entry) entry.badge }

-- whether an entry is of the connection, or of one with the same user
abbrev pub is_own : ℕ → List (List ℕ) → Record → Entry → Bool
is_own conn ids room entry = entry.conn == conn || list_any (bytes_eq (user_of room entry)) ids

abbrev pub commit_of : Option Round → List Item
commit_of None = []
commit_of (Some round) = commit round.first round.second ∷ []

-- any choice that completes a round: the round's two choices, whoever chose first
abbrev pub items_of_round : Record → Entry → List Item
items_of_round room entry = commit_of (round_of room entry)

-- ---- the table, row by row

-- an entry of the connection, or of a connection whose user is one of its users: the entry whole, and the round that it completes
abbrev pub items_of_own : Record → Entry → List Item
items_of_own room entry = whole (entry_kept room entry) ∷ items_of_round room entry

-- of others, refused: none
abbrev pub items_of_refused : List Item
items_of_refused = []

-- of others, a choice: the round that it completes, else none
abbrev pub items_of_choice : Record → Entry → List Item
items_of_choice room entry = items_of_round room entry

-- of others, an Undo: none
abbrev pub items_of_undo : List Item
items_of_undo = []

-- of others, an allowed Modnote: none where the connection's role doesn't see it
abbrev pub items_of_modnote : ℕ → Record → Entry → List Item
items_of_modnote conn room entry = if sees_notes conn room then whole (entry_kept room entry) ∷ [] else []

-- of others, an allowed entry that no row above names: the entry whole
abbrev pub items_of_rest : Record → Entry → List Item
items_of_rest room entry = whole (entry_kept room entry) ∷ []

-- ---- which row an entry has

abbrev pub items_of_allowed : ℕ → Record → Entry → Command → List Item
items_of_allowed conn room entry (Choose choice rqid) = items_of_choice room entry
items_of_allowed conn room entry Undo = items_of_undo
items_of_allowed conn room entry (Modnote text) = items_of_modnote conn room entry
items_of_allowed conn room entry other = items_of_rest room entry

abbrev pub items_of_others : ℕ → Record → Entry → Option Why → List Item
items_of_others conn room entry (Some why) = items_of_refused
items_of_others conn room entry None = items_of_allowed conn room entry entry.cmd

-- the items of an entry, to a connection with these users
abbrev pub items_of : ℕ → List (List ℕ) → Record → Entry → List Item
items_of conn ids room entry = if is_own conn ids room entry then items_of_own room entry else items_of_others conn room entry
    (verdict room entry)

-- ---- the low history

-- the items of a history, from a record on
abbrev pub low_from : ℕ → List (List ℕ) → Record → List Entry → List Item
low_from conn ids room [] = []
low_from conn ids room (entry ∷ entries) = items_of conn ids room entry ++ low_from conn ids (after room entry) entries

-- the low history of a story. Its users are those of the whole history, also of later entries.
abbrev pub low : ℕ → Story → List Item
low conn story = low_from conn (users conn story) (begun story) story.history
