-- What is known of two sessions that met.
use Rattle.std.proofs.Common.{◌≡◌, ℕ, List, Some, sym, subst, inl, inr, ⊎_elim, ◌⊎◌}
use mathlib.Core.List.{IsPrefix}
use Rattle.ps_hall.specs.declared.entry.HallEntry.{HallEntry}
use Rattle.ps_histlock.specs.declared.view.Entry.{Entry}
use Rattle.ps_histlock.specs.Histories.{commands, signed}
use Rattle.ps_histlock.specs.Signs.{Speaks}
use Rattle.server_places.specs.declared.command.RoomCmd.{RoomCmd}
use Rattle.server_places.specs.Sites.{room_signer}
use Rattle.server_places.specs.Halls.{hall_signer}
use Rattle.ps_hub.specs.Hubs.{Hub}
use Rattle.ps_hub.specs.Passes.{HallPass, RoomPass, AreOf, IsRoomPass}
use Rattle.server_pass.specs.Meetings.{IsHeardRightly}
use Rattle.ps_hub.specs.Meetings.{HallsMeet, RoomsMet, HasNone, RoomsMeet}
use Rattle.ps_hub.specs.declared.passes.Passes.{Passes}
use Rattle.ps_hub.proofs.PassListLemmas.{at_place, said_of, speaks_of}
use Rattle.ps_serve.specs.Sessions.{IsHeardInHall, AgreeInHall, IsHeardInRoom, AgreeInRoom}

-- ---- the hall

heard_in_hall : (hub : Hub) (passes : Passes) (h k : HallPass) → AreOf hub passes → passes.hall ≡ Some h → IsHeardRightly hall_signer h.pass.1 k.pass.1 → IsHeardInHall passes.conn h k
heard_in_hall hub passes h k are is heard = (
  are.opened,
  are.is_open,
  subst (λ (l : List (Entry HallEntry)). IsPrefix (signed hall_signer passes.conn (commands k.pass.1.seen)) (signed hall_signer passes.conn (commands l))) (said_of hub passes h are is) (heard passes.conn (speaks_of hub passes h are is)),
)

pub halls_agree : (hub : Hub) (old new other after : Passes) → AreOf hub old → AreOf hub other → HallsMeet old new other after → AgreeInHall old other
halls_agree hub old new other after are other_are m = record {
  hall = m.one;
  other_hall = m.another;
  is = m.was;
  other_is = m.other_was;
  one_history = m.met.lists;
  heard = heard_in_hall hub old m.one m.another are m.was m.heard;
  heard_back = heard_in_hall hub other m.another m.one other_are m.other_was m.heard_back;
}

-- ---- a room

heard_in_room : (hub : Hub) (conn : ℕ) (h k : RoomPass) → IsRoomPass hub conn h → IsHeardRightly room_signer h.pass.1 k.pass.1 → IsHeardInRoom conn h k
heard_in_room hub conn h k p heard = λ speaks.
    subst (λ (l : List (Entry RoomCmd)). IsPrefix (signed room_signer conn (commands k.pass.1.seen)) (signed room_signer conn (commands l))) p.said
    (heard conn (subst (λ (l : List (Entry RoomCmd)). Speaks room_signer conn l) (sym p.said) speaks))

met_in_room : (hub : Hub) (number : ℕ) (old new other after : Passes) → AreOf hub old → AreOf hub other → RoomsMet number old new other after → AgreeInRoom number old other
met_in_room hub number old new other after are other_are m = record {
  at = m.at;
  other_at = m.other_at;
  room = m.one;
  other_room = m.another;
  is = m.was;
  other_is = m.other_was;
  number_is = m.number_is;
  other_number = m.other_number;
  one_history = m.met.lists;
  heard = heard_in_room hub old.conn m.one m.another (at_place (IsRoomPass hub old.conn) old.rooms.items m.at m.one m.was are.rooms) m.heard;
  heard_back = heard_in_room hub other.conn m.another m.one (at_place (IsRoomPass hub other.conn) other.rooms.items m.other_at m.another m.other_was other_are.rooms) m.heard_back;
}

pub rooms_agree : (hub : Hub) (number : ℕ) (old new other after : Passes) → AreOf hub old → AreOf hub other → RoomsMeet number old new other after → AgreeInRoom number old other ⊎ HasNone number old ⊎ HasNone number other
rooms_agree hub number old new other after are other_are m =
    ⊎_elim
    (λ (met : RoomsMet number old new other after). inl (met_in_room hub number old new other after are other_are met))
    (λ (none : (HasNone number old ⊎ HasNone number other) × (new ≡ old) × (after ≡ other)). inr none.0)
    m
