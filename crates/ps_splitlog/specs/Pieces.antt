-- A piece of a log: as many messages as a reader takes at once.
use Rattle.std.specs.Prelude.{◌≡◌, ◌≤◌, ◌<◌, ℕ, ◌-◌, min, List, length, take, ◌⊎◌}
use Rattle.std.specs.List.{sum_by}
use Rattle.ps_splitlog.specs.declared.entry.LogEntry.{LogEntry}
use Rattle.ps_splitlog.specs.declared.cursor.Cursor.{Cursor}
use Rattle.ps_splitlog.specs.Reads.{cursor_past, read_past}

-- ---- where a piece is full

abbrev pub most_messages : ℕ
most_messages = 64

abbrev pub most_bytes : ℕ
most_bytes = 65536

-- the bytes of lines, without newlines
abbrev pub bytes_in : List (List ℕ) → ℕ
bytes_in lines = sum_by length lines

abbrev pub bytes_of : List (List (List ℕ)) → ℕ
bytes_of messages = sum_by bytes_in messages

abbrev pub IsFull : List (List (List ℕ)) → Type 0
IsFull messages = (most_messages ≤ length messages) ⊎ (most_bytes ≤ bytes_of messages)

-- all but the last so many
abbrev pub without_last : {X : Type 0} → ℕ → List X → List X
without_last count xs = take (length xs - count) xs

-- no longer than it is with the message that made it full
pub record HadRoomBeforeLast (messages : List (List (List ℕ))) : Type 0 where
  pub few : length messages ≤ most_messages
  pub fits : bytes_of (without_last 1 messages) < most_bytes

-- ---- where it ends

-- how many entries are left at the least: so many, or all behind a cursor that has fewer behind it
abbrev pub fewest_left : ℕ → Cursor → List LogEntry → ℕ
fewest_left least cursor log = min least (length log - cursor.at)

-- ---- for the code alone

-- not full
pub record IsOpen (messages : List (List (List ℕ))) : Type 0 where
  pub few : length messages < most_messages
  pub fits : bytes_of messages < most_bytes

-- a piece with these messages, behind which so many entries are left and this is the cursor
pub record IsWalked (cursor : Cursor) (log : List LogEntry) (least most : ℕ) (messages : List (List (List ℕ))) (left : ℕ) (behind : Cursor)
    : Type 0 where
  pub messages_are : messages ≡ read_past cursor (without_last left log)
  pub end : behind ≡ cursor_past cursor (without_last left log)
  pub high : left ≤ most
  pub low : fewest_left least cursor log ≤ left
  pub onward : left ≤ length log - cursor.at
  pub short : HadRoomBeforeLast messages ⊎ (left ≡ most)
  pub whole : (left ≡ fewest_left least cursor log) ⊎ IsFull messages

-- a cursor further on, but not past the last so many, that reads the same
pub record ReadsOn (cursor start : Cursor) (least : ℕ) (log : List LogEntry) : Type 0 where
  pub onward : cursor.at ≤ start.at
  pub within : start.at ≤ length log - least
  pub messages : (count : ℕ) → start.at ≤ count → read_past start (take count log) ≡ read_past cursor (take count log)
  pub end : (count : ℕ) → start.at ≤ count → cursor_past start (take count log) ≡ cursor_past cursor (take count log)
