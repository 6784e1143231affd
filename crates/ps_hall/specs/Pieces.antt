-- How much of what the hall told is in one piece.
use Rattle.std.specs.Prelude.{◌<◌, ◌≤◌, ◌-◌, ◌⊎◌, ℕ, List, length, take}
use Rattle.std.specs.List.{sum_by}
use Rattle.ps_hall.specs.declared.piece.TheConstants.{PIECE_MESSAGES, PIECE_BYTES}

-- how many bytes the lines of a message have
abbrev pub message_bytes : List (List ℕ) → ℕ
message_bytes lines = sum_by length lines

-- and those of some messages
abbrev pub piece_bytes : List (List (List ℕ)) → ℕ
piece_bytes ms = sum_by message_bytes ms

-- a piece with these messages has enough
abbrev pub IsEnough : List (List (List ℕ)) → Type 0
IsEnough ms = (PIECE_MESSAGES ≤ length ms) ⊎ (PIECE_BYTES ≤ piece_bytes ms)

-- a piece with these messages hadn't enough before its last one
pub record HadRoomBeforeLast (ms : List (List (List ℕ))) : Type 0 where
  pub messages : length ms ≤ PIECE_MESSAGES
  pub bytes : piece_bytes (take (length ms - 1) ms) < PIECE_BYTES
