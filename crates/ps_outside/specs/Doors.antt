-- When a door's calls may answer what, and which links it handed out.
use Rattle.std.specs.Prelude.{◌≡◌, ℕ, Bool, List, [], ◌∷◌, Result, Ok, Err}
use Rattle.ps_outside.specs.Counts.{one_more, HasRisen}
use Rattle.ps_outside.specs.declared.door.DoorEnd.{DoorEnd}
use Rattle.ps_outside.specs.declared.door.DoorEnd.TheVariants.{Failed, NoMemory}

-- how many links were handed out after an answer
abbrev pub given_after : {T E : Type 0} → Result T E → ℕ → ℕ
given_after (Ok link) given = one_more given
given_after (Err end) given = given

-- the link of an answer, if it is one
abbrev pub links_of : {L E : Type 0} → Result L E → List L
links_of (Ok link) = link ∷ []
links_of (Err end) = []

-- Failed raises the count of faults, and no other answer does
abbrev pub HasAcceptCause : {T : Type 0} → ℕ → ℕ → Result T DoorEnd → Type 0
HasAcceptCause before now (Ok link) = now ≡ before
HasAcceptCause before now (Err Failed) = HasRisen before now
HasAcceptCause before now (Err NoMemory) = now ≡ before

-- the links that a door in memory has left, whether it was closed, its counts, how often each call was made, and the calls that fail
pub record MemEntry (L : Type 0) : Type 0 where
  pub links : List L
  pub is_shut : Bool
  pub given : ℕ
  pub faults : ℕ
  pub open_calls : ℕ
  pub accept_calls : ℕ
  pub failing_open : List ℕ
  pub failing_accept : List ℕ

-- the links that a door in memory that never fails has left, whether it was closed, and how many it handed out
pub record SureEntry (L : Type 0) : Type 0 where
  pub links : List L
  pub is_shut : Bool
  pub given : ℕ
