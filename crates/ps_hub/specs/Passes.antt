-- What a connection has of the places of a hub.
use Rattle.std.specs.Prelude.{◌≡◌, ◌≢◌, ◌⊎◌, ℕ, ◌<◌, ◌≤◌, List, [], ◌∷◌, ◌++◌, map, length, slice_get, All, Option, Some, None}
use Rattle.std.specs.List.{AllWithin}
use Rattle.ps_lines.specs.declared.command.HallCmd.TheVariants.{Open}
use Rattle.ps_hall.specs.declared.entry.HallEntry.{HallEntry}
use Rattle.ps_histlock.specs.Histories.{commands}
use Rattle.ps_histlock.specs.Seated.{TableId}
use Rattle.ps_histlock.specs.declared.view.Entry.{Entry}
use Rattle.ps_histlock.specs.declared.view.View.{View}
use Rattle.ps_histlock.specs.Views.{newcomer}
use Rattle.server_pass.specs.Passes.{IsPass}
use Rattle.server_pass.specs.declared.pass.PlacePass.{PlacePass}
use Rattle.server_places.specs.declared.command.RoomCmd.{RoomCmd}
use Rattle.server_places.specs.declared.cursor.HallCursor.{HallCursor}
use Rattle.server_places.specs.declared.cursor.RoomCursor.{RoomCursor}
use Rattle.server_places.specs.declared.site.Root.{Root}
use Rattle.server_places.specs.declared.site.Site.{Site}
use Rattle.server_places.specs.Sites.{Tells, id_told, room_signer}
use Rattle.server_places.specs.Rooms.{cursor_of, site_in, Stands}
use Rattle.server_places.specs.Halls.{root_in, HallStands, hall_signer}
use Rattle.server_places.specs.Tellings.{hall_telling, room_telling}
use Rattle.ps_hub.specs.Hubs.{Hub, root_of, site_of, lock_of}
use Rattle.ps_hub.specs.declared.passes.Passes.{Passes}
use Rattle.ps_room.specs.Stories.{Story}

-- what a connection has of the hall
abbrev pub HallPass : Type 0
HallPass = PlacePass (TableId × View Root HallEntry) HallCursor (Unit {0}) (Unit {0})

-- what it has of the place of a room: its number, and the id by which it is held, if it is
abbrev pub RoomPass : Type 0
RoomPass = PlacePass (TableId × View Site RoomCmd) RoomCursor ℕ (Option (List ℕ))

-- a pass of the hall of this hub
abbrev pub IsHallPass : Hub → ℕ → HallPass → Type 0
IsHallPass hub conn pass = IsPass root_in HallStands hall_signer hall_telling conn (hub.hall, root_of hub) pass

-- the room by whose id a place is held is that of the pass's history
abbrev pub HeldBy : Option (List ℕ) → Hub → RoomPass → Type 0
HeldBy None hub pass = Unit {0}
HeldBy (Some id) hub pass = (told : Option Story) × Tells (site_of hub pass.number) (commands pass.pass.1.seen) told
    × (id_told told ≡ Some id)

-- a pass of a place with this name
abbrev pub IsAtPlace : Hub → ℕ → TableId → RoomPass → Type 0
IsAtPlace hub conn name pass = IsPass site_in Stands room_signer room_telling conn (name, site_of hub pass.number) pass

-- a pass of the place of a room of this hub; it has said what it has made
pub record IsRoomPass (hub : Hub) (conn : ℕ) (pass : RoomPass) : Type 0 where
  pub place : IsAtPlace hub conn pass.pass.0 pass
  pub lock : lock_of hub pass.number ≡ Some pass.pass.0
  pub said : pass.pass.1.said ≡ pass.pass.1.mine
  pub held : HeldBy pass.id hub pass

-- the numbers of the places of a list
abbrev pub numbers : List RoomPass → List ℕ
numbers rooms = map (λ (pass : RoomPass). pass.number) rooms

-- each is less than all behind it
abbrev pub IsRising : List ℕ → Type 0
IsRising [] = Unit {0}
IsRising (number ∷ rest) = All (λ (later : ℕ). number < later) rest × IsRising rest

-- Passes that come from a hub: the hall is held, each is a pass of the lock that the hub has at that place, and those of rooms
-- stand by rising numbers. What the pass of the hall has said is the connection's Open and then its own entries.
pub record AreOf (hub : Hub) (passes : Passes) : Type 0 where
  pub hall_pass : HallPass
  pub hall : passes.hall ≡ Some hall_pass
  pub hall_is : IsHallPass hub passes.conn hall_pass
  pub opened : Entry HallEntry
  pub is_open : (moment : ℕ) × (opened.cmd ≡ record { conn = passes.conn; moment = moment; cmd = Open })
  pub said : hall_pass.pass.1.said ≡ opened ∷ hall_pass.pass.1.mine
  pub rooms : All (IsRoomPass hub passes.conn) passes.rooms.items
  pub rising : IsRising (numbers passes.rooms.items)

-- ---- looking into passes

-- all is as it was; the list may have got room
abbrev pub IsAsBefore : Passes → Passes → Type 0
IsAsBefore old new = (new ≡ record old { rooms = new.rooms }) × (new.rooms.items ≡ old.rooms.items)

-- this index in a list is that of the first pass of a higher place, or the end
abbrev pub IsGap : ℕ → ℕ → List RoomPass → Type 0
IsGap number pass_index rooms =
    AllWithin (λ (pass : RoomPass). pass.number ≤ number) rooms 0 pass_index
    × ((pass : RoomPass) → slice_get rooms pass_index ≡ Some pass → number < pass.number)

-- a pass more, at this index in the list
abbrev pub IsAdded : Passes → ℕ → RoomPass → Passes → Type 0
IsAdded old pass_index pass new = (xs ys : List RoomPass)
    × (old.rooms.items ≡ xs ++ ys) × (length xs ≡ pass_index) × (new ≡ record old { rooms = new.rooms })
    × (new.rooms.items ≡ xs ++ pass ∷ ys) × IsGap pass.number pass_index old.rooms.items

-- a new pass of a place, which was told nothing and isn't held
pub record IsNewPass (hub : Hub) (conn number : ℕ) (room_pass : RoomPass) : Type 0 where
  pub number_is : room_pass.number ≡ number
  pub id : room_pass.id ≡ None
  pub pass : (lock : TableId) × (by : ℕ) × (lock_of hub number ≡ Some lock) × (room_pass.pass ≡ (lock, newcomer (site_of hub number) by))
  pub cursor : room_pass.cursor ≡ cursor_of conn None 0
  pub kept : room_pass.kept.items ++ room_pass.fresh.items ≡ []
  pub at : room_pass.at ≡ 0

-- The pass of a place, which is there already or is added as a new one, at this index in the list; all else is as it was.
pub record Keeps (hub : Hub) (number pass_index : ℕ) (old : Passes) (pass : RoomPass) (new : Passes) : Type 0 where
  pub before : List RoomPass
  pub behind : List RoomPass
  pub was : (old.rooms.items ≡ before ++ pass ∷ behind)
      ⊎ ((old.rooms.items ≡ before ++ behind) × All (λ other. other.number ≢ number) old.rooms.items × IsNewPass hub old.conn number pass)
  pub is : new.rooms.items ≡ before ++ pass ∷ behind
  pub stands : length before ≡ pass_index
  pub number_is : pass.number ≡ number
  pub rising : IsRising (numbers old.rooms.items) → IsRising (numbers new.rooms.items)
  pub rest : new ≡ record old { rooms = new.rooms }

-- The pass of one place became another, or is there from now on; all else is as it was.
pub record ButFor (hub : Hub) (old : Passes) (old_pass new_pass : RoomPass) (new : Passes) : Type 0 where
  pub before : List RoomPass
  pub behind : List RoomPass
  pub was : (old.rooms.items ≡ before ++ old_pass ∷ behind)
      ⊎ ((old.rooms.items ≡ before ++ behind) × All (λ other. other.number ≢ old_pass.number) old.rooms.items
      × IsNewPass hub old.conn old_pass.number old_pass)
  pub is : new.rooms.items ≡ before ++ new_pass ∷ behind
  pub same_place : new_pass.number ≡ old_pass.number
  pub conn : new.conn ≡ old.conn
  pub badge : new.badge ≡ old.badge
  pub hall : new.hall ≡ old.hall
