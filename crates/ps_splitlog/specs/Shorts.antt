-- A log that forgets: what it has of a log whose beginning is gone.
use Rattle.std.specs.Prelude.{◌≡◌, ◌≤◌, ◌-◌, ℕ, suc, List, [], ◌∷◌, ◌++◌, length, take, drop, if◌then◌else◌, nat_lt, Some}
use Rattle.ps_view.specs.declared.role.Role.{Role}
use Rattle.ps_splitlog.specs.declared.backlog.BacklogSize.{BacklogSize}
use Rattle.ps_splitlog.specs.declared.backlog.BacklogSize.TheVariants.{All, Last}
use Rattle.ps_splitlog.specs.declared.stored.Stored.{Stored}
use Rattle.ps_splitlog.specs.declared.entry.Joined.{Joined}
use Rattle.ps_splitlog.specs.declared.entry.LogEntry.{LogEntry}
use Rattle.ps_splitlog.specs.Entries.{logged_in, logged_lines, size_of_keep, last_of, join_for, message_of}

-- How many of the logged lines of the entries that are gone are kept at the most, these lines, the entries that aren't gone, and
-- how many are.
pub record Short : Type 0 where
  pub most : BacklogSize
  pub backlog : List Stored
  pub kept : List LogEntry
  pub gone : ℕ

-- what it has of a log
pub record IsShortOf (log : List LogEntry) (short : Short) : Type 0 where
  pub backlog : short.backlog ≡ last_of short.most (logged_lines (take short.gone log))
  pub kept : short.kept ≡ drop short.gone log
  pub gone : short.gone ≤ length log

-- with no entry
abbrev pub started : BacklogSize → Short
started most = record { most = most; backlog = []; kept = []; gone = 0 }

-- with a further entry
abbrev pub with_entry : LogEntry → Short → Short
with_entry entry short = record { most = short.most; backlog = short.backlog; kept = short.kept ++ entry ∷ []; gone = short.gone }

-- without the last entry that isn't gone
abbrev pub taken_back : Short → Short
taken_back short = record { most = short.most; backlog = short.backlog; kept = take (length short.kept - 1) short.kept; gone = short.gone }

-- where these aren't gone: the first of them is
abbrev pub gone_of : BacklogSize → List Stored → ℕ → List LogEntry → Short
gone_of most backlog gone [] = record { most = most; backlog = backlog; kept = []; gone = gone }
gone_of most backlog gone (entry ∷ entries) = record
    { most = most; backlog = last_of most (backlog ++ logged_in entry); kept = entries; gone = suc gone }

-- with the first entry that isn't gone forgotten, but for its logged lines
abbrev pub forgotten : Short → Short
forgotten short = gone_of short.most short.backlog short.gone short.kept

-- of what was logged before the next entry, what who joins by it may be sent
abbrev pub lines_of : Short → List Stored
lines_of short = last_of short.most (short.backlog ++ logged_lines short.kept)

-- ---- for the code: how many lines who joins is sent, and where they begin

-- the fewer of both
abbrev pub fewer : BacklogSize → BacklogSize → BacklogSize
fewer All most = most
fewer (Last count) All = Last count
fewer (Last count) (Last limit) = Last (if nat_lt count limit then count else limit)

-- of so many lines the index of the first that counts, where so many more follow them
abbrev pub first_of : BacklogSize → ℕ → ℕ → ℕ
first_of All many more = 0
first_of (Last count) many more = many - (count - more)

-- and of those that follow
abbrev pub skipped_of : BacklogSize → ℕ → ℕ
skipped_of All more = 0
skipped_of (Last count) more = more - count

-- ---- laws

-- the next entry's message is that of the whole log, where who joins is sent no more lines than are kept
abbrev pub IsFew : BacklogSize → LogEntry → Type 0
IsFew most entry = (conn : ℕ) (joined : Joined) → join_for conn entry ≡ Some joined
    → fewer (size_of_keep joined.keep) most ≡ size_of_keep joined.keep

-- What is short of a log stays so, as entries come and are forgotten; and who joins is sent what it is sent of the log.
pub record StaysShort (log : List LogEntry) (short : Short) : Type 0 where
  pub pushed : (entry : LogEntry) → IsShortOf (log ++ entry ∷ []) (with_entry entry short)
  pub forgotten : IsShortOf log (forgotten short)
  pub message : (conn : ℕ) (role : Role) (entry : LogEntry) → IsFew short.most entry
      → message_of conn role (lines_of short) entry ≡ message_of conn role (logged_lines log) entry

pub record AreShort : Type 0 where
  pub start : (most : BacklogSize) → IsShortOf [] (started most)
  pub next : (log : List LogEntry) (short : Short) → IsShortOf log short → StaysShort log short
