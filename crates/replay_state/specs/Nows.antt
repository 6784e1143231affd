-- The hall and the rooms as they are, without their histories.
use Rattle.std.specs.Prelude.{ℕ, ◌-◌, List, map, slice_get, nat_lt, Option, if◌then◌else◌}
use Rattle.std.specs.Option.{option_map}
use Rattle.ps_base.specs.ById.{ById}
use Rattle.ps_hall.specs.Records.{Record as HallRecord}
use Rattle.ps_room.specs.Records.{Record}
use Rattle.ps_room.specs.Stories.{Story}
use Rattle.ps_room.specs.Openings.{first_battle}
use Rattle.replay_state.specs.Worlds.{World, hall_in, record_of}

-- a room: its id and its record
pub record Standing : Type 0 where
  pub id : List ℕ
  pub state : Record

-- the record of the hall; the chat rooms by their numbers, and the rooms of battles in the order in which these started; and
-- the number of each room, by its id
pub record Now : Type 0 where
  pub hall : HallRecord
  pub chats : List Standing
  pub battles : List Standing
  pub numbers : ById ℕ

abbrev pub standing_of : Story → Standing
standing_of story = record { id = story.opening.id; state = record_of story }

abbrev pub now_of : World → Now
now_of world = record {
  hall = hall_in world;
  chats = map standing_of world.chats;
  battles = map standing_of world.battles;
  numbers = world.numbers;
}

-- a room by its number
abbrev pub room_at : ℕ → Now → Option Standing
room_at number now = if nat_lt number first_battle then slice_get now.chats number else slice_get now.battles (number - first_battle)

-- its record
abbrev pub record_at : ℕ → Now → Option Record
record_at number now = option_map (λ room. room.state) (room_at number now)
