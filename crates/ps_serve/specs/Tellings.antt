-- For the code of telling: what it does at one place.
use Rattle.std.specs.Prelude.{◌≡◌, ◌⊎◌, ◌≤◌, ℕ, List, [], ◌∷◌, length, take, slice_get, IsSome, Option, Some, None}
use Rattle.ps_base.specs.declared.msg.Msg.{Msg}
use Rattle.ps_base.specs.Messages.{texts_of}
use Rattle.ps_outside.specs.Links.{Talk, after_text}
use Rattle.ps_histlock.specs.declared.view.View.{View}
use Rattle.ps_histlock.specs.Histories.{commands}
use Rattle.ps_histlock.specs.Views.{after_look}
use Rattle.server_places.specs.Rooms.{Shows}
use Rattle.ps_hub.specs.Hubs.{Hub, site_of}
use Rattle.server_pass.specs.Turns.{Rereads}
use Rattle.server_pass.specs.Catches.{IsFresh, HandsOut}
use Rattle.ps_hub.specs.Calls.{HallOnly, HallHanded, RoomOnly, Handed}
use Rattle.ps_hub.specs.Passes.{RoomPass}
use Rattle.ps_hub.specs.declared.passes.Passes.{Passes}

-- these texts are behind those that the link was sent, where it tells them
abbrev pub after_texts : List (List ℕ) → Option Talk → Option Talk
after_texts [] told = told
after_texts (text ∷ texts) told = after_texts texts (after_text text told)

-- ---- the hall

-- messages were handed out, in pieces, and all of them were sent
pub record SendsHall (hub : Hub) (old new : Passes) (was is : Option Talk) : Type 0 where
  pub msgs : List Msg
  pub only : HallOnly (HallHanded hub old.conn msgs) old new
  pub sent : is ≡ after_texts (texts_of None msgs) was

-- so it is, and all that a look showed was handed out
pub record TellsHall (hub : Hub) (shown : ℕ) (old new : Passes) (was is : Option Talk) : Type 0 where
  pub sends : SendsHall hub old new was is
  pub answered : shown ≤ sends.only.behind.at

-- of what was handed out only the first texts were sent
pub record SendsOfHall (hub : Hub) (old new : Passes) (was is : Option Talk) : Type 0 where
  pub msgs : List Msg
  pub only : HallOnly (HallHanded hub old.conn msgs) old new
  pub count : ℕ
  pub sent : is ≡ after_texts (take count (texts_of None msgs)) was

-- ---- a room

-- messages were handed out, in pieces, and all of them were sent
pub record SendsRoom (hub : Hub) (place : ℕ) (old new : Passes) (was is : Option Talk) : Type 0 where
  pub msgs : List Msg
  pub only : RoomOnly place (Handed hub old.conn msgs) old new
  pub sent : is ≡ after_texts (texts_of only.behind.id msgs) was

-- of what was handed out only the first texts were sent
pub record SendsOfRoom (hub : Hub) (place : ℕ) (old new : Passes) (was is : Option Talk) : Type 0 where
  pub msgs : List Msg
  pub only : RoomOnly place (Handed hub old.conn msgs) old new
  pub count : ℕ
  pub sent : is ≡ after_texts (take count (texts_of only.behind.id msgs)) was

-- A look, turns without an entry, if any, and messages that were handed out for them.
module _ {O C : Type 0} (shows : List C → List (List (List ℕ)) → Type 0) where
  pub record LooksAndTells (shown : ℕ) (old : View O C) (at : ℕ) (msgs : List Msg) (new : View O C) (now : ℕ) : Type 0 where
    pub seen : length old.seen ≤ shown
    pub fresh : IsFresh old shown
    pub read : Rereads (after_look old shown) new
    pub out : HandsOut shows (commands old.seen) at msgs (commands new.seen) now

abbrev pub RoomTells : Hub → ℕ → ℕ → List Msg → RoomPass → RoomPass → Type 0
RoomTells hub conn shown msgs old new = LooksAndTells (Shows conn (site_of hub old.number)) shown old.pass.1 old.at msgs new.pass.1 new.at

-- the place isn't held, and nothing was done
pub record PassesBy (place : ℕ) (old new : Passes) (was is : Option Talk) : Type 0 where
  pub pass : RoomPass
  pub there : slice_get old.rooms.items place ≡ Some pass
  pub free : pass.id ≡ None
  pub same : new ≡ old
  pub silent : is ≡ was

-- the place was looked at, and all was sent that the look showed
pub record TellsHeld (hub : Hub) (place : ℕ) (old new : Passes) (was is : Option Talk) : Type 0 where
  pub shown : ℕ
  pub msgs : List Msg
  pub only : RoomOnly place (RoomTells hub old.conn shown msgs) old new
  pub held : IsSome only.before.id
  pub answered : shown ≤ only.behind.at
  pub sent : is ≡ after_texts (texts_of only.before.id msgs) was

abbrev pub TellsRoom : Hub → ℕ → Passes → Passes → Option Talk → Option Talk → Type 0
TellsRoom hub place old new was is = TellsHeld hub place old new was is ⊎ PassesBy place old new was is

-- the place was looked at, and of what was handed out only the first texts were sent
pub record TellsRoomPart (hub : Hub) (place : ℕ) (old new : Passes) (was is : Option Talk) : Type 0 where
  pub shown : ℕ
  pub msgs : List Msg
  pub only : RoomOnly place (RoomTells hub old.conn shown msgs) old new
  pub held : IsSome only.before.id
  pub count : ℕ
  pub sent : is ≡ after_texts (take count (texts_of only.before.id msgs)) was
