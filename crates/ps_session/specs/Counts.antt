-- How many texts were given to each room, by its id as the whole text.
use Rattle.std.specs.Prelude.{ℕ, zero, suc, ◌+◌, ◌-◌, List, Option, None, Some, unwrap_or}
use Rattle.std.specs.FinMap.{empty, get, insert, remove}
use Rattle.ps_base.specs.ById.{ById}

-- the counts, of rooms with at least one text; how many rooms these are; and the room of the last text, if it was one
-- for a room
pub record Counts : Type 0 where
  pub rooms : ById ℕ
  pub joined : ℕ
  pub last : Option (List ℕ)

abbrev pub no_counts : Counts
no_counts = record { rooms = empty; joined = 0; last = None }

-- how many texts were given to a room
abbrev pub count_in : List ℕ → ById ℕ → ℕ
count_in id rooms = unwrap_or (get rooms id) 0

-- ---- one text more

abbrev pub raised : List ℕ → ById ℕ → ById ℕ
raised id rooms = insert rooms id (count_in id rooms + 1)

-- how many rooms there are with one that has this count so far
abbrev pub joined_with : Option ℕ → ℕ → ℕ
joined_with None joined = joined + 1
joined_with (Some count) joined = joined

-- ---- one text less

-- the room with this count; one without a text isn't there
abbrev pub with_left : ℕ → List ℕ → ById ℕ → ById ℕ
with_left zero id rooms = remove rooms id
with_left (suc count) id rooms = insert rooms id (suc count)

abbrev pub lowered : List ℕ → ById ℕ → ById ℕ
lowered id rooms = with_left (count_in id rooms - 1) id rooms

-- how many rooms there are where one is left with this count
abbrev pub joined_left : ℕ → ℕ → ℕ
joined_left zero joined = joined - 1
joined_left (suc count) joined = joined

-- the counts without the text that was counted last, if it was one for a room
abbrev pub without_last : Option (List ℕ) → Counts → Counts
without_last None counts = counts
without_last (Some id) counts = record {
  rooms = lowered id counts.rooms;
  joined = joined_left (count_in id counts.rooms - 1) counts.joined;
  last = None;
}
