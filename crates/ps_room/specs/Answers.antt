-- The answer that an entry gets.
use Rattle.std.specs.Prelude.{◌≡◌, ◌≢◌, ℕ, [], ◌∷◌, Some, None}
use Rattle.ps_room.specs.declared.entry.Entry.{Entry}
use Rattle.ps_base.specs.declared.why.Why.{Why}
use Rattle.ps_base.specs.Whys.{error_line}
use Rattle.ps_room.specs.Records.{Record}
use Rattle.ps_room.specs.Rooms.{verdict, applied, after, message}

pub record IsAnswered (room : Record) (entry : Entry) : Type 0 where
  -- an allowed entry is applied
  pub allowed : verdict room entry ≡ None → after room entry ≡ applied room entry
  -- a refused one leaves the record as it was,
  pub unchanged : (why : Why) → verdict room entry ≡ Some why → after room entry ≡ room
  -- gives its sender the one line of that reason,
  pub told : (why : Why) → verdict room entry ≡ Some why → message entry.conn room entry ≡ error_line why ∷ []
  -- and nobody else anything
  pub silent : (why : Why) (conn : ℕ) → verdict room entry ≡ Some why → conn ≢ entry.conn → message conn room entry ≡ []
