-- The messages of a script's entries, and how they are printed.
use Rattle.std.specs.Prelude.{◌≢◌, ℕ, ◌<◌, zero, suc, Bool, true, false, ◌&&◌, List, [], ◌∷◌, ◌++◌, length, map, codes}
use Rattle.std.specs.Prelude.{slice_index, Option, Some, None}
use Rattle.std.specs.Prelude.{◌==◌, if◌then◌else◌}
use Rattle.std.specs.List.{flat_map, filter_map}
use Rattle.std.specs.Fmt.{decimal}
use Rattle.replay_script.specs.declared.item.Item.{Item}
use Rattle.ps_base.specs.Messages.{headed}
use Rattle.replay_state.specs.declared.place.Placed.{Placed}
use Rattle.replay_state.specs.declared.place.Happening.{Happening}
use Rattle.replay_state.specs.declared.place.Happening.TheVariants.{Entry, Ended}
use Rattle.replay_state.specs.Setup.{Setup}
use Rattle.replay_state.specs.Worlds.{Place, in_hall, in_room, place_of, World, world_after, world_message, room_id}
use Rattle.replay_state.specs.Entries.{Run, run_opening, run_after, line_in}
use Rattle.ps_base.specs.Characters as characters

-- ---- messages

-- what one connection is sent from one place at one entry, with the id of the room, if it is one
pub record Message : Type 0 where
  pub conn : ℕ
  pub place : Place
  pub id : Option (List ℕ)
  pub lines : List (List ℕ)

abbrev pub message_if : ℕ → Place → Option (List ℕ) → List (List ℕ) → List Message
message_if conn place id [] = []
message_if conn place id (line ∷ lines) = record { conn = conn; place = place; id = id; lines = line ∷ lines } ∷ []

-- the messages of an entry to so many connections, from 1 on
abbrev pub messages_to : ℕ → World → Placed → List Message
messages_to zero world placed = []
messages_to (suc count) world placed = messages_to count world placed
    ++ message_if (suc count) (place_of placed) (room_id world placed) (world_message (suc count) world placed)

-- what is printed: a message, or that a connection's session ended at a limit
pub data Sign : Type 0 where
  told : Message → Sign
  over : ℕ → Sign

-- what is printed of these happenings in a world, where so many connections have opened
abbrev pub signs_from : ℕ → World → List Happening → List Sign
signs_from count world [] = []
signs_from count world (Entry placed ∷ placeds) = map told (messages_to count world placed)
    ++ signs_from count (world_after world placed) placeds
signs_from count world (Ended conn ∷ conns) = over conn ∷ signs_from count world conns

-- what is printed of these lines behind others: for each entry in order its messages, to each connection that has opened, in
-- ascending number; and that a session ended, after the messages of its last entries
abbrev pub signs_in : Run → List Item → List Sign
signs_in run [] = []
signs_in run (item ∷ items) = signs_from (length (line_in run item).sessions) run.world (line_in run item).happenings
    ++ signs_in (run_after run item) items

-- all that is printed of a script
abbrev pub signs : Setup → List Item → List Sign
signs setup items = signs_in (run_opening setup) items

abbrev pub message_in : Sign → Option Message
message_in (told message) = Some message
message_in (over conn) = None

-- all messages of a script
abbrev pub messages : Setup → List Item → List Message
messages setup items = filter_map message_in (signs setup items)

-- ---- printing

-- a line without a newline, as all are that rooms and the hall make. Nothing here rests on that
abbrev pub HasNoNewline : List ℕ → Type 0
HasNoNewline line = (index : ℕ) → index < length line → slice_index line index ≢ characters.newline

-- A line as it is printed: behind a newline in it stand the digits of its connection and `. ` again, as before a further line. So
-- what is printed can be read back, whatever lines say.
abbrev pub byte_behind : List ℕ → ℕ → List ℕ
byte_behind digits byte = if byte == characters.newline then characters.newline ∷ digits ++ codes ". " else byte ∷ []

abbrev pub line_behind : List ℕ → List ℕ → List ℕ
line_behind digits line = flat_map (byte_behind digits) line

-- the first line of a message, and each further one
abbrev pub first_line : ℕ → List ℕ → List ℕ
first_line conn line = decimal conn ++ codes "< " ++ line_behind (decimal conn) line ++ characters.newline ∷ []

abbrev pub further_line : ℕ → List ℕ → List ℕ
further_line conn line = decimal conn ++ codes ". " ++ line_behind (decimal conn) line ++ characters.newline ∷ []

-- the lines of a message to a connection
abbrev pub printed : ℕ → List (List ℕ) → List ℕ
printed conn [] = []
printed conn (line ∷ lines) = first_line conn line ++ flat_map (further_line conn) lines

-- a room's message begins with the line `>ID`
abbrev pub with_id : Option (List ℕ) → List (List ℕ) → List (List ℕ)
with_id id [] = []
with_id id (line ∷ lines) = headed id (line ∷ lines)

abbrev pub print : Message → List ℕ
print message = printed message.conn (with_id message.id message.lines)

-- the line of a session that ended at a limit
abbrev pub over_line : ℕ → List ℕ
over_line conn = decimal conn ++ codes "! OwnLimit" ++ characters.newline ∷ []

abbrev pub print_sign : Sign → List ℕ
print_sign (told message) = print message
print_sign (over conn) = over_line conn

-- all that is written for a script
abbrev pub output : Setup → List Item → List ℕ
output setup items = flat_map print_sign (signs setup items)

-- ---- blocks

abbrev pub same_place : Place → Place → Bool
same_place in_hall in_hall = true
same_place in_hall (in_room number) = false
same_place (in_room number) in_hall = false
same_place (in_room number) (in_room other) = number == other

abbrev pub picked : ℕ → Place → Message → List (List (List ℕ))
picked conn place message = if message.conn == conn && same_place place message.place then message.lines ∷ [] else []

-- a connection's messages from a place, in order, as the view of that place has them
abbrev pub block : ℕ → Place → List Message → List (List (List ℕ))
block conn place ms = flat_map (picked conn place) ms
