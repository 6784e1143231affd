-- The index of a log, for the code's lookups alone: how many lines were logged before each entry, and where each logged line
-- stands.
use Rattle.std.specs.Prelude.{◌≡◌, ℕ, suc, ◌+◌, List, [], ◌∷◌, ◌++◌, length, Option, Some, None, if◌then◌else◌}
use Rattle.ps_splitlog.specs.declared.stored.Stored.{Stored}
use Rattle.ps_splitlog.specs.declared.entry.LogEntry.{LogEntry}
use Rattle.ps_splitlog.specs.declared.index.LineIndex.{LineIndex}
use Rattle.ps_view.specs.declared.role.Role.{Role}
use Rattle.std.specs.List.{filter_map, slice_get}
use Rattle.ps_splitlog.specs.Lines.{is_logged_line, shown_if}
use Rattle.ps_splitlog.specs.Entries.{logged_in}

-- how many lines were logged before each entry, where so many came before these
abbrev pub starts_of : ℕ → List LogEntry → List ℕ
starts_of before [] = []
starts_of before (entry ∷ entries) = before ∷ starts_of (before + length (logged_in entry)) entries

-- the indices of the logged lines of an entry with this number, from this line on
abbrev pub line_indices_in : ℕ → ℕ → List Stored → List LineIndex
line_indices_in entry line [] = []
line_indices_in entry line (stored ∷ storeds) = if is_logged_line stored then record { entry = entry; line = line }
    ∷ line_indices_in entry (suc line) storeds else line_indices_in entry (suc line) storeds

-- the indices of all logged lines, where this is the number of the first entry
abbrev pub line_indices_of : ℕ → List LogEntry → List LineIndex
line_indices_of entry [] = []
line_indices_of entry (log_entry ∷ log_entries) = line_indices_in entry 0 log_entry.lines ++ line_indices_of (suc entry) log_entries

pub record IsIndex (log : List LogEntry) (before : List ℕ) (logged : List LineIndex) : Type 0 where
  pub starts : before ≡ starts_of 0 log
  pub line_indices : logged ≡ line_indices_of 0 log

abbrev pub line_in : Option LogEntry → ℕ → Option Stored
line_in None line = None
line_in (Some entry) line = slice_get entry.lines line

-- the line at an index
abbrev pub line_at : List LogEntry → LineIndex → Option Stored
line_at log index = line_in (slice_get log index.entry) index.line

-- what a connection in this role is shown of the lines at these indices
abbrev pub shown_at : ℕ → Role → List LogEntry → List LineIndex → List (List ℕ)
shown_at conn role log line_indices = filter_map (λ index. shown_if conn role (line_at log index)) line_indices
