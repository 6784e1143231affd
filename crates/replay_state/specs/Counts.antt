-- How many entries a script makes, and how many of them are refused.
use Rattle.std.specs.Prelude.{ℕ, ◌+◌, Bool, true, false, List, [], ◌∷◌, Option, Some, None}
use Rattle.ps_hall.specs.declared.outcome.HallVerdict.{HallVerdict}
use Rattle.ps_hall.specs.declared.outcome.HallVerdict.TheVariants as in_hall
use Rattle.ps_hall.specs.Halls as halls
use Rattle.ps_room.specs.declared.outcome.Verdict.{Verdict}
use Rattle.ps_room.specs.declared.outcome.Verdict.TheVariants as in_room
use Rattle.ps_room.specs.declared.outcome.RoomOut.{RoomOut}
use Rattle.replay_script.specs.declared.item.Item.{Item}
use Rattle.replay_state.specs.declared.place.Placed.{Placed}
use Rattle.replay_state.specs.declared.place.Placed.TheVariants.{Hall, Room}
use Rattle.replay_state.specs.Setup.{Setup}
use Rattle.replay_state.specs.Worlds.{World, world_opening, world_after}
use Rattle.replay_state.specs.Nows.{Now, now_of, record_at}
use Rattle.replay_state.specs.Entries.{out_at, entries}

abbrev pub hall_refuses : HallVerdict → Bool
hall_refuses in_hall.Applied = false
hall_refuses (in_hall.Refused why) = true

abbrev pub room_refuses : Verdict → Bool
room_refuses in_room.Applied = false
room_refuses (in_room.Refused why) = true

abbrev pub out_refuses : Option RoomOut → Bool
out_refuses None = false
out_refuses (Some out) = room_refuses out.verdict

-- whether the hall or the room refuses an entry, as they are
abbrev pub is_refused : Now → Placed → Bool
is_refused now (Hall entry) = hall_refuses (halls.out_of now.hall entry).verdict
is_refused now (Room number entry) = out_refuses (out_at (record_at number now) entry)

abbrev pub one_if : Bool → ℕ
one_if false = 0
one_if true = 1

-- how many of these entries are refused, each by what those before it leave
abbrev pub refused_from : World → List Placed → ℕ
refused_from world [] = 0
refused_from world (placed ∷ placeds) = one_if (is_refused (now_of world) placed) + refused_from (world_after world placed) placeds

-- how many entries of a script are refused
abbrev pub refused : Setup → List Item → ℕ
refused setup items = refused_from (world_opening setup) (entries setup items)
