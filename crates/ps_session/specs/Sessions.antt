-- What is known of one connection: its badge, and how many texts it gave to each place.
use Rattle.std.specs.Prelude.{ℕ, ◌+◌, ◌-◌, Bool, true, false, List, Option, None, Some, nat_le, nat_lt, if◌then◌else◌}
use Rattle.std.specs.FinMap.{empty, get}
use Rattle.ps_base.specs.declared.badge.Badge.{Badge}
use Rattle.ps_base.specs.ById.{ById}
use Rattle.ps_session.specs.declared.session.TheConstants.{MOST_TEXTS, MOST_ROOMS}
use Rattle.ps_session.specs.Counts.{count_in, raised, joined_with, lowered, joined_left}

-- `hall` counts the texts for the hall, `rooms` those for each room with at least one, by its id as the whole text;
-- `joined` is the number of these rooms; `last` is the room of the order that was taken last, if it was one for a room
pub record Record : Type 0 where
  pub conn : ℕ
  pub badge : Option Badge
  pub hall : ℕ
  pub rooms : ById ℕ
  pub joined : ℕ
  pub last : Option (List ℕ)

-- a connection that has given no text
abbrev pub begun : ℕ → Record
begun conn = record { conn = conn; badge = None; hall = 0; rooms = empty; joined = 0; last = None }

-- ---- limits

-- how many texts were given to a place: the hall, or the room with an id
abbrev pub texts_at : Option (List ℕ) → Record → ℕ
texts_at None session = session.hall
texts_at (Some id) session = count_in id session.rooms

-- whether these are as many as may be given
abbrev pub is_full : Option (List ℕ) → Record → Bool
is_full place session = nat_le MOST_TEXTS (texts_at place session)

abbrev pub is_none : Option ℕ → Bool
is_none None = true
is_none (Some count) = false

-- whether a room would be one more than a connection may have
abbrev pub is_past_rooms : List ℕ → Record → Bool
is_past_rooms id session = if nat_lt session.joined MOST_ROOMS then false else is_none (get session.rooms id)

-- ---- counting

-- the record after a text for a place
abbrev pub counted : Option (List ℕ) → Record → Record
counted None session = record {
  conn = session.conn;
  badge = session.badge;
  hall = session.hall + 1;
  rooms = session.rooms;
  joined = session.joined;
  last = None;
}
counted (Some id) session = record {
  conn = session.conn;
  badge = session.badge;
  hall = session.hall;
  rooms = raised id session.rooms;
  joined = joined_with (get session.rooms id) session.joined;
  last = Some id;
}

-- the record without a text that was counted to a room; one that is left without a text isn't there any more
abbrev pub uncounted : Option (List ℕ) → Record → Record
uncounted None session = session
uncounted (Some id) session = record {
  conn = session.conn;
  badge = session.badge;
  hall = session.hall;
  rooms = lowered id session.rooms;
  joined = joined_left (count_in id session.rooms - 1) session.joined;
  last = None;
}

-- the record once a badge is known
abbrev pub with_badge : Badge → Record → Record
with_badge badge session = record {
  conn = session.conn;
  badge = Some badge;
  hall = session.hall;
  rooms = session.rooms;
  joined = session.joined;
  last = session.last;
}

-- and while it is lent out
abbrev pub without_badge : Record → Record
without_badge session = record {
  conn = session.conn;
  badge = None;
  hall = session.hall;
  rooms = session.rooms;
  joined = session.joined;
  last = session.last;
}
