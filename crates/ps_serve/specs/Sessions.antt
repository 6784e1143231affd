-- What is known of a session that has ended, whatever its link and its clock were; and of two that met.
use Rattle.std.specs.Prelude.{◌≡◌, ℕ, ◌∷◌, Option, Some, slice_get}
use mathlib.Core.List.{IsPrefix}
use Rattle.ps_lines.specs.declared.command.HallCmd.TheVariants.{Open}
use Rattle.ps_hall.specs.declared.entry.HallEntry.{HallEntry}
use Rattle.ps_histlock.specs.declared.view.Entry.{Entry}
use Rattle.ps_histlock.specs.Histories.{commands, signed, AreOneList}
use Rattle.ps_histlock.specs.Signs.{Speaks}
use Rattle.server_places.specs.Sites.{room_signer}
use Rattle.server_places.specs.Halls.{hall_signer}
use Rattle.ps_outside.specs.Links.{Talk, LinkCounts}
use Rattle.ps_hub.specs.Hubs.{Hub}
use Rattle.ps_hub.specs.Calls.{hall_entry}
use Rattle.ps_hub.specs.Passes.{HallPass, RoomPass}
use Rattle.ps_hub.specs.declared.passes.Passes.{Passes}
use Rattle.ps_serve.specs.declared.closed.Closed.{Closed}
use Rattle.ps_serve.specs.Steps.{Hours}
use Rattle.ps_serve.specs.Ends.{Account, Served}
use Rattle.ps_serve.specs.Names.{IfTaken, IsNumberInUse, HasOwnNumber}

-- The end of a session of the connection with this number: of an account of it, over some link and some clock, all holds that a
-- session promises.
pub record IsSession (hub : Hub) (conn : ℕ) (closed : Closed) : Type 0 where
  pub account : Account
  pub talk_before : Option Talk
  pub talk : Option Talk
  pub counts_before : LinkCounts
  pub counts : LinkCounts
  pub hours_before : Hours
  pub hours : Hours
  pub served : Served closed.end hub conn account closed.passes talk_before talk counts_before counts hours_before hours
  pub taken : IfTaken closed.end (IsNumberInUse hub conn closed.passes closed.refused)
  pub names : HasOwnNumber conn closed.passes

-- ---- sessions that met

-- What the second has seen in the hall under the number of the first is a beginning of this: the Open of the first, and the entries
-- that the first made, in order.
abbrev pub IsHeardInHall : ℕ → HallPass → HallPass → Type 0
IsHeardInHall conn first second =
    (opened : Entry HallEntry) × ((moment : ℕ) × (opened.cmd ≡ hall_entry conn moment Open))
    × IsPrefix (signed hall_signer conn (commands second.pass.1.seen)) (signed hall_signer conn (commands (opened ∷ first.pass.1.mine)))

-- What two connections have seen of the hall begins one and the same history, with the same numbers, commands and moments; and what
-- each has seen there as said by the other was said by the other.
pub record AgreeInHall (one other : Passes) : Type 0 where
  pub hall : HallPass
  pub other_hall : HallPass
  pub is : one.hall ≡ Some hall
  pub other_is : other.hall ≡ Some other_hall
  pub one_history : AreOneList hall.pass.1.seen other_hall.pass.1.seen
  pub heard : IsHeardInHall one.conn hall other_hall
  pub heard_back : IsHeardInHall other.conn other_hall hall

-- the same of a room where the first has made an entry: what the second has seen there under its number are its entries, in order
-- and with nothing left out before them
abbrev pub IsHeardInRoom : ℕ → RoomPass → RoomPass → Type 0
IsHeardInRoom conn first second = Speaks room_signer conn first.pass.1.mine
    → IsPrefix (signed room_signer conn (commands second.pass.1.seen)) (signed room_signer conn (commands first.pass.1.mine))

pub record AgreeInRoom (number : ℕ) (one other : Passes) : Type 0 where
  pub at : ℕ
  pub other_at : ℕ
  pub room : RoomPass
  pub other_room : RoomPass
  pub is : slice_get one.rooms.items at ≡ Some room
  pub other_is : slice_get other.rooms.items other_at ≡ Some other_room
  pub number_is : room.number ≡ number
  pub other_number : other_room.number ≡ number
  pub one_history : AreOneList room.pass.1.seen other_room.pass.1.seen
  pub heard : IsHeardInRoom one.conn room other_room
  pub heard_back : IsHeardInRoom other.conn other_room room
