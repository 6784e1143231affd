-- The message of an entry.
use Rattle.std.proofs.Common.{◌≡◌, ℕ, ◌+◌, ◌<◌, List, [], ◌∷◌, ◌++◌, length, get_or, take, drop, Some, None, sym, ap, subst, ◌∙◌, arith}
use Rattle.std.specs.List.{slice_get}
use Rattle.std.proofs.lemmas.List.{drop_more, take_more, take-append-drop, length-take}
use Rattle.std.proofs.lemmas.Option.{slice_get_within, get_or_from_slice_get}
use Rattle.std.specs.Option.{option_to_list}
use Rattle.ps_view.specs.declared.role.Role.{Role}
use Rattle.ps_splitlog.specs.declared.entry.LogEntry.{LogEntry}
use Rattle.ps_splitlog.specs.declared.entry.Joined.{Joined}
use Rattle.ps_splitlog.specs.declared.index.LineIndex.{LineIndex}
use Rattle.ps_splitlog.specs.declared.stored.Stored.{Stored}
use Rattle.ps_splitlog.specs.Lines.{shown_lines}
use Rattle.ps_splitlog.specs.Entries.{changed, logged_lines, size_of_keep, last_of, join_for, joined_or, first_message, message_of, message_at}
use Rattle.ps_splitlog.specs.Reads.{messages_of}
use Rattle.ps_splitlog.specs.Indices.{IsIndex, shown_at}
use Rattle.ps_splitlog.proofs.IndexLemmas.{backlog_is}
use Rattle.ps_base.specs.Messages.{sent}

from_here : (log : List LogEntry) (entry_index : ℕ) (h : LogEntry) → slice_get log entry_index ≡ Some h → drop entry_index log ≡ h ∷ drop (entry_index + 1) log
from_here log entry_index h at =
    drop_more log entry_index h (slice_get_within log entry_index h at)
    ∙ ap (λ x. x ∷ drop (entry_index + 1) log) (get_or_from_slice_get log entry_index h h at)

-- the message of who joins, by the index
pub message_of_join : (conn : ℕ) (role : Role) (log : List LogEntry) (entry_index : ℕ) (h : LogEntry) (j : Joined) (starts : List ℕ) (line_indices : List LineIndex) → IsIndex log starts line_indices → slice_get log entry_index ≡ Some h → join_for conn h ≡ Some j
    → j.head ++ shown_at conn j.role log (last_of (size_of_keep j.keep) (take (get_or starts entry_index 0) line_indices)) ++ option_to_list j.tail ≡ message_at conn role log entry_index
message_of_join conn role log entry_index h j starts line_indices index at joins =
    let earlier : List LogEntry = take entry_index log in
    let later : List LogEntry = drop (entry_index + 1) log in
    let here : drop entry_index log ≡ h ∷ later = from_here log entry_index h at in
    let parts : log ≡ earlier ++ h ∷ later = sym (take-append-drop entry_index log) ∙ ap (λ hs. earlier ++ hs) here in
    let lt : entry_index < length log = slice_get_within log entry_index h at in
    let many : length earlier ≡ entry_index = length-take entry_index log ∙ omega (arith, lt) in
    let whole : IsIndex (earlier ++ h ∷ later) starts line_indices = subst (λ hs. IsIndex hs starts line_indices) parts index in
    let backlog : shown_at conn j.role log (last_of (size_of_keep j.keep) (take (get_or starts entry_index 0) line_indices)) ≡ shown_lines conn j.role (last_of (size_of_keep j.keep) (logged_lines earlier)) =
    ap (λ hs. shown_at conn j.role hs (last_of (size_of_keep j.keep) (take (get_or starts entry_index 0) line_indices))) parts
    ∙ ap (λ n. shown_at conn j.role (earlier ++ h ∷ later) (last_of (size_of_keep j.keep) (take (get_or starts n 0) line_indices))) (sym many)
    ∙ backlog_is conn j.role (size_of_keep j.keep) earlier h later starts line_indices whole in
    ap (λ texts. j.head ++ texts ++ option_to_list j.tail) backlog
    ∙ ap (λ o. joined_or conn o (logged_lines earlier) (shown_lines conn role h.lines)) (sym joins)
    ∙ ap (first_message conn role earlier) (sym here)

-- the messages from an index on: that of its entry, and those behind it
pub next_message : (conn : ℕ) (role : Role) (log : List LogEntry) (entry_index : ℕ) (d : LogEntry) → entry_index < length log
    → messages_of conn role (take entry_index log) (drop entry_index log) ≡ sent (message_at conn role log entry_index) ++ messages_of conn (changed conn (get_or log entry_index d).roles role) (take (entry_index + 1) log) (drop (entry_index + 1) log)
next_message conn role log entry_index d lt =
    let h : LogEntry = get_or log entry_index d in
    let here : drop entry_index log ≡ h ∷ drop (entry_index + 1) log = drop_more log entry_index d lt in
    ap (messages_of conn role (take entry_index log)) here
    ∙ ap (λ hs. sent (first_message conn role (take entry_index log) hs) ++ messages_of conn (changed conn h.roles role) (take entry_index log ++ h ∷ []) (drop (entry_index + 1) log)) (sym here)
    ∙ ap (λ hs. sent (message_at conn role log entry_index) ++ messages_of conn (changed conn h.roles role) hs (drop (entry_index + 1) log)) (sym (take_more log entry_index d lt))

-- what isn't the joiner's is the lines that are shown
pub plain_message : (conn : ℕ) (role : Role) (before : List Stored) (h : LogEntry) → join_for conn h ≡ None → message_of conn role before h ≡ shown_lines conn role h.lines
plain_message conn role before h other = ap (λ o. joined_or conn o before (shown_lines conn role h.lines)) other
