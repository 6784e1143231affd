-- What connections that met can be sure of.
use Rattle.std.specs.Prelude.{◌≡◌, ◌≢◌, ◌⊎◌, ℕ, slice_get, slice_set, All, Some}
use Rattle.server_pass.specs.Meetings.{Met, IsHeardRightly}
use Rattle.server_places.specs.Sites.{room_signer}
use Rattle.server_places.specs.Halls.{hall_signer}
use Rattle.ps_hub.specs.Passes.{HallPass, RoomPass}
use Rattle.ps_hub.specs.declared.passes.Passes.{Passes}

-- the passes of the hall of two connections met, and nothing else changed
pub record HallsMeet (old new other after : Passes) : Type 0 where
  pub one : HallPass
  pub one_after : HallPass
  pub another : HallPass
  pub another_after : HallPass
  pub was : old.hall ≡ Some one
  pub is : new.hall ≡ Some one_after
  pub other_was : other.hall ≡ Some another
  pub other_is : after.hall ≡ Some another_after
  pub met : Met hall_signer one.pass.1 one_after.pass.1 another.pass.1 another_after.pass.1
  pub heard : IsHeardRightly hall_signer one.pass.1 another.pass.1
  pub heard_back : IsHeardRightly hall_signer another.pass.1 one.pass.1
  pub same : one_after ≡ record one { pass = one_after.pass }
  pub other_same : another_after ≡ record another { pass = another_after.pass }
  pub rest : new ≡ record old { hall = new.hall }
  pub other_rest : after ≡ record other { hall = after.hall }

-- the passes of the place of a room met, and nothing else changed
pub record RoomsMet (number : ℕ) (old new other after : Passes) : Type 0 where
  pub at : ℕ
  pub other_at : ℕ
  pub one : RoomPass
  pub one_after : RoomPass
  pub another : RoomPass
  pub another_after : RoomPass
  pub was : slice_get old.rooms.items at ≡ Some one
  pub is : new.rooms.items ≡ slice_set old.rooms.items at one_after
  pub other_was : slice_get other.rooms.items other_at ≡ Some another
  pub other_is : after.rooms.items ≡ slice_set other.rooms.items other_at another_after
  pub number_is : one.number ≡ number
  pub other_number : another.number ≡ number
  pub met : Met room_signer one.pass.1 one_after.pass.1 another.pass.1 another_after.pass.1
  pub heard : IsHeardRightly room_signer one.pass.1 another.pass.1
  pub heard_back : IsHeardRightly room_signer another.pass.1 one.pass.1
  pub same : one_after ≡ record one { pass = one_after.pass }
  pub other_same : another_after ≡ record another { pass = another_after.pass }
  pub rest : new ≡ record old { rooms = new.rooms }
  pub other_rest : after ≡ record other { rooms = after.rooms }

-- a connection has no pass of that place
abbrev pub HasNone : ℕ → Passes → Type 0
HasNone number passes = All (λ (pass : RoomPass). pass.number ≢ number) passes.rooms.items

-- they met, or one has no pass of that place, and nothing changed
abbrev pub RoomsMeet : ℕ → Passes → Passes → Passes → Passes → Type 0
RoomsMeet number old new other after = RoomsMet number old new other after
    ⊎ ((HasNone number old ⊎ HasNone number other) × (new ≡ old) × (after ≡ other))
