-- The log: its entries, and what a connection is sent at each.
use Rattle.std.specs.Prelude.{ℕ, ◌-◌, List, [], ◌∷◌, ◌++◌, length, map, take, drop, Option, Some, None, ◌==◌, if◌then◌else◌}
use Rattle.std.specs.List.{filter, flat_map}
use Rattle.std.specs.Option.{option_to_list}
use Rattle.ps_event.specs.declared.event.Event.{Event}
use Rattle.ps_dex.specs.declared.item.Tables.{Tables}
use Rattle.ps_view.specs.declared.names.Names.{Names}
use Rattle.ps_view.specs.declared.role.Role.{Role}
use Rattle.ps_splitlog.specs.declared.backlog.BacklogSize.{BacklogSize}
use Rattle.ps_splitlog.specs.declared.backlog.BacklogSize.TheVariants.{All, Last}
use Rattle.ps_splitlog.specs.declared.stored.Stored.{Stored}
use Rattle.ps_splitlog.specs.declared.entry.Joined.{Joined}
use Rattle.ps_splitlog.specs.declared.entry.LogEntry.{LogEntry}
use Rattle.ps_splitlog.specs.Lines.{Line, stored_of, stored_of_line, is_logged_line, shown_lines}

-- what the log keeps of an entry
abbrev pub log_entry_of : Names → Tables → ℕ → List Event → List Line → Option Joined → List (ℕ × Role) → LogEntry
log_entry_of names dex conn events ls join roles = record { conn = conn; lines = stored_of names dex events ls; join = join; roles = roles }

-- of an entry that tells no event and gives no role
abbrev pub log_entry_of_lines : ℕ → List Line → Option Joined → LogEntry
log_entry_of_lines conn ls join = record { conn = conn; lines = map stored_of_line ls; join = join; roles = [] }

-- ---- roles

-- the role after these changes: the first that names the connection counts
abbrev pub changed : ℕ → List (ℕ × Role) → Role → Role
changed conn [] role = role
changed conn (change ∷ changes) role = if change.0 == conn then change.1 else changed conn changes role

-- ---- the backlog

abbrev pub logged_in : LogEntry → List Stored
logged_in entry = filter is_logged_line entry.lines

-- all lines of these entries that are logged, in order
abbrev pub logged_lines : List LogEntry → List Stored
logged_lines hs = flat_map logged_in hs

-- how much a joiner's `keep` stands for: the last so many, or all by the greatest number that a `keep` has
abbrev pub size_of_keep : ℕ → BacklogSize
size_of_keep keep = if keep == 4294967295 then All else Last keep

-- the `keep` for a size
abbrev pub keep_of_size : BacklogSize → ℕ
keep_of_size All = 4294967295
keep_of_size (Last count) = count

-- all, or the last so many
abbrev pub last_of : {X : Type 0} → BacklogSize → List X → List X
last_of All ls = ls
last_of (Last count) ls = drop (length ls - count) ls

-- ---- messages

-- what who joins is sent in the place of the entry's lines, where this connection is the one
abbrev pub join_for : ℕ → LogEntry → Option Joined
join_for conn entry = if conn == entry.conn then entry.join else None

-- the head, the last lines that were logged before by the role of the join, and the tail
abbrev pub joined_or : ℕ → Option Joined → List Stored → List (List ℕ) → List (List ℕ)
joined_or conn None before texts = texts
joined_or conn (Some joined) before texts = joined.head ++ shown_lines conn joined.role (last_of (size_of_keep joined.keep) before)
    ++ option_to_list joined.tail

-- what a connection in this role is sent at an entry, before which these lines were logged
abbrev pub message_of : ℕ → Role → List Stored → LogEntry → List (List ℕ)
message_of conn role before entry = joined_or conn (join_for conn entry) before (shown_lines conn role entry.lines)

abbrev pub first_message : ℕ → Role → List LogEntry → List LogEntry → List (List ℕ)
first_message conn role earlier [] = []
first_message conn role earlier (entry ∷ entries) = message_of conn role (logged_lines earlier) entry

-- what it is sent at the entry at this index of the log; past the end there is none
abbrev pub message_at : ℕ → Role → List LogEntry → ℕ → List (List ℕ)
message_at conn role log entry_index = first_message conn role (take entry_index log) (drop entry_index log)
