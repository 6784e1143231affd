-- The hall and the rooms together, and what their entries make of them.
use Rattle.std.specs.Prelude.{ℕ, ◌-◌, List, [], ◌∷◌, ◌++◌, map, slice_get, slice_set, nat_lt, Option, Some, None, if◌then◌else◌}
use Rattle.std.specs.Option.{option_map_or, option_map}
use Rattle.std.specs.FinMap.{insert, empty}
use Rattle.ps_base.specs.ById.{ById}
use Rattle.rules_start.specs.declared.start.Start.{Start}
use Rattle.ps_hall.specs.declared.entry.HallEntry.{HallEntry}
use Rattle.ps_hall.specs.Records.{Record as HallRecord}
use Rattle.ps_hall.specs.Halls as halls
use Rattle.ps_room.specs.declared.entry.Entry.{Entry}
use Rattle.ps_room.specs.Openings.{Opening}
use Rattle.ps_room.specs.Records.{Record, opened}
use Rattle.ps_room.specs.Rooms.{run_record, message}
use Rattle.ps_room.specs.Stories.{Story, story, view_of}
use Rattle.replay_state.specs.declared.place.Placed.{Placed}
use Rattle.replay_state.specs.declared.place.Placed.TheVariants.{Hall, Room}
use Rattle.ps_room.specs.Openings.{battle_opening, first_battle}
use Rattle.replay_state.specs.Setup.{Setup, opened_hall, chat_openings}

-- ---- places

pub data Place : Type 0 where
  in_hall : Place
  in_room : ℕ → Place

abbrev pub place_of : Placed → Place
place_of (Hall entry) = in_hall
place_of (Room number entry) = in_room number

-- ---- worlds

-- The history of the hall; the chat rooms by their numbers, and the rooms of battles in the order in which these started, each
-- with its opening and its history; and the number of each room, by its id.
pub record World : Type 0 where
  pub setup : Setup
  pub hall : List HallEntry
  pub chats : List Story
  pub battles : List Story
  pub numbers : ById ℕ

-- the number of a room, by its id
abbrev pub with_number : ById ℕ → Opening → ById ℕ
with_number numbers opening = insert numbers opening.id opening.no

abbrev pub numbers_from : ById ℕ → List Opening → ById ℕ
numbers_from numbers [] = numbers
numbers_from numbers (opening ∷ openings) = numbers_from (with_number numbers opening) openings

-- nothing has happened yet
abbrev pub no_story : Opening → Story
no_story opening = story opening []

-- before the first entry
abbrev pub world_opening : Setup → World
world_opening setup = record {
  setup = setup;
  hall = [];
  chats = map no_story (chat_openings setup);
  battles = [];
  numbers = numbers_from empty (chat_openings setup);
}

-- the hall after its history
abbrev pub hall_in : World → HallRecord
hall_in world = halls.run_record (opened_hall world.setup) world.hall

-- the record of a room after its history
abbrev pub record_of : Story → Record
record_of told = run_record (opened told.opening) told.history

-- a room by its number
abbrev pub story_at : ℕ → World → Option Story
story_at number world = if nat_lt number first_battle then slice_get world.chats number else slice_get world.battles (number - first_battle)

-- ---- the step

abbrev pub more : Story → Entry → Story
more told entry = story told.opening (told.history ++ entry ∷ [])

abbrev pub stories_after : List Story → ℕ → Entry → List Story
stories_after ss place entry = option_map_or (λ told. slice_set ss place (more told entry)) (slice_get ss place) ss

-- the room of a battle, under the configuration and the dex of the hall that starts it
abbrev pub opening_in : HallRecord → Start → Opening
opening_in hall start = battle_opening hall.config hall.dex start

-- a battle that starts has its room from then on
abbrev pub with_battle : HallRecord → Option Start → World → World
with_battle hall None world = world
with_battle hall (Some start) world = record world {
  battles = world.battles ++ no_story (opening_in hall start) ∷ [];
  numbers = with_number world.numbers (opening_in hall start);
}

-- the battle that an entry of the hall starts
abbrev pub started_by : HallRecord → HallEntry → Option Start
started_by hall entry = (halls.out_of hall entry).start

abbrev pub with_hall : World → HallEntry → World
with_hall world entry = record world { hall = world.hall ++ entry ∷ [] }

abbrev pub with_room : World → ℕ → Entry → World
with_room world number entry = if nat_lt number first_battle then record world { chats = stories_after world.chats number entry } else
    record world
    { battles = stories_after world.battles (number - first_battle) entry }

-- the world after an entry
abbrev pub world_after : World → Placed → World
world_after world (Hall entry) = with_battle (hall_in world) (started_by (hall_in world) entry) (with_hall world entry)
world_after world (Room number entry) = with_room world number entry

-- ---- what is told

abbrev pub room_message : ℕ → Entry → Option Record → List (List ℕ)
room_message conn entry None = []
room_message conn entry (Some room) = message conn room entry

-- what a connection is sent at an entry
abbrev pub world_message : ℕ → World → Placed → List (List ℕ)
world_message conn world (Hall entry) = halls.message conn (hall_in world) entry
world_message conn world (Room number entry) = room_message conn entry (option_map record_of (story_at number world))

-- all that a connection is sent from a place over its history, message by message
abbrev pub world_view : ℕ → Place → World → List (List (List ℕ))
world_view conn in_hall world = halls.view conn (opened_hall world.setup) world.hall
world_view conn (in_room number) world = option_map_or (view_of conn) (story_at number world) []

-- the id of the room of an entry, which is the text behind `>` in its messages
abbrev pub room_id : World → Placed → Option (List ℕ)
room_id world (Hall entry) = None
room_id world (Room number entry) = Some (option_map_or (λ told. told.opening.id) (story_at number world) [])
