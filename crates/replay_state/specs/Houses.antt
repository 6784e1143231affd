-- The hall and the rooms as the code keeps them: of what a room logged what who joins may still be shown. No statement of the top
-- call rests on this file.
use Rattle.std.specs.Prelude.{ℕ, ◌-◌, List, [], ◌∷◌, ◌++◌, map, slice_get, slice_set, nat_lt, Option, Some, None, if◌then◌else◌}
use Rattle.std.specs.List.{filter_map}
use Rattle.std.specs.Option.{option_map_or}
use Rattle.std.specs.FinMap.{empty}
use Rattle.ps_base.specs.ById.{ById}
use Rattle.rules_start.specs.declared.start.Start.{Start}
use Rattle.ps_event.specs.declared.audience.Audience.{Audience}
use Rattle.ps_event.specs.declared.audience.Audience.TheVariants as audiences
use Rattle.ps_hall.specs.declared.entry.HallEntry.{HallEntry}
use Rattle.ps_hall.specs.declared.notice.Notice.{Notice}
use Rattle.ps_hall.specs.Records.{Record as HallRecord}
use Rattle.ps_hall.specs.Halls as halls
use Rattle.ps_splitlog.specs.declared.entry.LogEntry.{LogEntry}
use Rattle.ps_splitlog.specs.declared.entry.Joined.{Joined}
use Rattle.ps_splitlog.specs.declared.stored.Stored.{Stored}
use Rattle.ps_splitlog.specs.declared.stored.Stored.TheVariants.{Same, Split}
use Rattle.ps_splitlog.specs.Entries.{message_of}
use Rattle.ps_room.specs.declared.entry.Entry.{Entry}
use Rattle.ps_room.specs.Rooms.{role}
use Rattle.ps_room.specs.Records.{presents_of}
use Rattle.ps_room.specs.Logs.{conn_of, record_in, given}
use Rattle.replay_state.specs.declared.place.Placed.{Placed}
use Rattle.replay_state.specs.declared.place.Placed.TheVariants.{Hall, Room}
use Rattle.ps_room.specs.Openings.{first_battle}
use Rattle.ps_room.specs.Stories.{Story, seen_of}
use Rattle.replay_state.specs.Kepts.{Kept, kept, kept_opened, kept_after}
use Rattle.replay_state.specs.Setup.{Setup, opened_hall, chat_openings}
use Rattle.replay_state.specs.Worlds.{World, with_number, numbers_from, hall_in, opening_in, started_by}
use Rattle.replay_state.specs.Nows.{Standing, Now}

-- the record of the hall; the chat rooms by their numbers, and the rooms of battles in the order in which these started; and
-- the number of each room, by its id
pub record House : Type 0 where
  pub hall : HallRecord
  pub chats : List Kept
  pub battles : List Kept
  pub numbers : ById ℕ

-- ---- what they are, but for what was logged: what a line brings about doesn't look at that

abbrev pub standing : Kept → Standing
standing room = record { id = room.room.id; state = record_in room.room }

abbrev pub now_in : House → Now
now_in house = record { hall = house.hall; chats = map standing house.chats; battles = map standing house.battles; numbers = house.numbers }

-- ---- one entry more

-- a room by its number
abbrev pub seen_at : ℕ → House → Option Kept
seen_at number house = if nat_lt number first_battle then slice_get house.chats number else slice_get house.battles (number - first_battle)

abbrev pub seen_rooms_after : List Kept → ℕ → Entry → List Kept
seen_rooms_after rooms place entry = option_map_or (λ room. slice_set rooms place (kept_after room entry)) (slice_get rooms place) rooms

-- a battle that this hall starts has its room from then on
abbrev pub begin : HallRecord → Option Start → House → House
begin hall None house = house
begin hall (Some start) house = record house {
  battles = house.battles ++ kept_opened (opening_in hall start) ∷ [];
  numbers = with_number house.numbers (opening_in hall start);
}

abbrev pub house_hall : House → HallEntry → House
house_hall house entry = record house { hall = halls.after house.hall entry }

abbrev pub house_room : House → ℕ → Entry → House
house_room house number entry = if nat_lt number first_battle then record house { chats = seen_rooms_after house.chats number entry }
    else record house
    { battles = seen_rooms_after house.battles (number - first_battle) entry }

abbrev pub house_after : House → Placed → House
house_after house (Hall entry) = begin house.hall (started_by house.hall entry) (house_hall house entry)
house_after house (Room number entry) = house_room house number entry

-- ---- what is told

abbrev pub id_of : Option Kept → List ℕ
id_of found = option_map_or (λ room. room.room.id) found []

-- the id of the room of an entry, which is the text behind `>` in its messages
abbrev pub house_id : House → Placed → Option (List ℕ)
house_id house (Hall entry) = None
house_id house (Room number entry) = Some (id_of (seen_at number house))

-- what a connection is sent at a room's next entry, of which the log will have this
unfoldable pub next_message : ℕ → Kept → LogEntry → List (List ℕ)
next_message conn room log_entry = message_of conn (role conn (record_in room.room)) room.backlog log_entry

-- what it is sent at an entry of a room
abbrev pub seen_message : ℕ → Entry → Option Kept → List (List ℕ)
seen_message conn entry None = []
seen_message conn entry (Some room) = next_message conn room (given (record_in room.room) entry)

-- what a connection is sent at an entry
abbrev pub house_message : ℕ → House → Placed → List (List ℕ)
house_message conn house (Hall entry) = halls.message conn house.hall entry
house_message conn house (Room number entry) = seen_message conn entry (seen_at number house)

-- ---- who may hear

-- the connection that this is for, where it is for one
abbrev pub one_of : Audience → Option ℕ
one_of (audiences.One conn) = Some conn
one_of other = None

abbrev pub own_conn : Stored → Option ℕ
own_conn (Same audience logged text) = one_of audience
own_conn (Split side logged secret public) = None

-- who may be sent something at a room's next entry: who made it, the members, and who has a line of its own
abbrev pub room_hearers : Kept → LogEntry → List ℕ
room_hearers room log_entry = log_entry.conn ∷ map conn_of (presents_of (record_in room.room)) ++ filter_map own_conn log_entry.lines

-- the text of a line for all members
abbrev pub text_for_all : Audience → List ℕ → Option (List ℕ)
text_for_all audiences.All text = Some text
text_for_all other text = None

abbrev pub common_of : Stored → Option (List ℕ)
common_of (Same audience logged text) = text_for_all audience text
common_of (Split side logged secret public) = None

-- of the only one of these
abbrev pub common_line : List Stored → Option (List ℕ)
common_line [] = None
common_line (line ∷ []) = common_of line
common_line (line ∷ next ∷ rest) = None

abbrev pub common_unless : Option Joined → List Stored → Option (List ℕ)
common_unless None ls = common_line ls
common_unless (Some joined) ls = None

-- the text of an entry that is one line, the same for each member, and nothing for who is none
abbrev pub common_text : LogEntry → Option (List ℕ)
common_text log_entry = common_unless log_entry.join log_entry.lines

abbrev pub told_conn : Notice → ℕ
told_conn notice = notice.conn

-- whom these notices tell something
abbrev pub notice_hearers : List Notice → List ℕ
notice_hearers ns = map told_conn ns

-- ---- the start

-- before the first entry
abbrev pub house_opening : Setup → House
house_opening setup = record {
  hall = opened_hall setup;
  chats = map kept_opened (chat_openings setup);
  battles = [];
  numbers = numbers_from empty (chat_openings setup);
}

-- ---- of a world

-- a room of it
abbrev pub kept_in : Story → Kept
kept_in story = kept (seen_of story)

abbrev pub house_of : World → House
house_of world = record {
  hall = hall_in world;
  chats = map kept_in world.chats;
  battles = map kept_in world.battles;
  numbers = world.numbers;
}
