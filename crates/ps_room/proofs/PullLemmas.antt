-- What is given to who looks is its view.
use Rattle.std.proofs.Common.{◌≡◌, ◌≤◌, ℕ, suc, ◌+◌, ◌-◌, ◌==◌, Bool, true, false, cond, List, [], ◌∷◌, ◌++◌, length, take, drop, Option, Some, None, refl, sym, ap, ◌∙◌, append_assoc, subst, arith}
use Rattle.std.proofs.lemmas.List.{append-nil, length-append}
use Rattle.std.proofs.Math.Seq.{take-append_seam, drop-append_seam}
use Rattle.rules_start.specs.declared.start.Start.{Start}
use Rattle.ps_event.specs.declared.event.Event.{Event}
use Rattle.ps_view.specs.declared.role.Role.{Role}
use Rattle.ps_view.specs.declared.role.Role.TheVariants.{Outside}
use Rattle.battle_rounds.specs.Casts.{Cast}
use Rattle.ps_splitlog.specs.declared.entry.LogEntry.{LogEntry}
use Rattle.ps_splitlog.specs.Entries as log
use Rattle.ps_splitlog.specs.Lines.{shown_lines}
use Rattle.ps_splitlog.specs.Reads.{messages_of, role_past, read_past, cursor_past, first_cursor}
use Rattle.ps_room.specs.declared.entry.Entry.{Entry}
use Rattle.ps_room.specs.Openings.{Opening, cast_with, bout_with}
use Rattle.ps_room.specs.Records.{Record, opened}
use Rattle.ps_room.specs.Rooms.{verdict, after, message, role, role_in, run_record, view}
use Rattle.ps_room.specs.Logs.{Seen, record_in, stored_in, opened_log, given, kept_of, run_seen, seen_after, seen_opened, cursor_at, PullsView, PullsAll, out_of, AreRoomsOfHistories}
use Rattle.ps_room.proofs.BlankLemmas.{blank, blank_verdict, blank_out, blank_given, seen_with, seen_step}
use Rattle.ps_room.proofs.StoredLemmas.{stored_shown}
use Rattle.ps_room.proofs.LogLemmas.{IsLogOf, log_after, opened_is, message_is}
use Rattle.ps_room.proofs.RoleLemmas.{role_next}
use Rattle.ps_room.proofs.SilenceLemmas.{no_events}
use Rattle.ps_base.specs.Messages.{sent}

-- ---- what the log has of a history

abbrev pub logs : Record → List Entry → List LogEntry
logs r [] = []
logs r (e ∷ es) = kept_of r e ∷ logs (after r e) es

pub run_more : (r : Record) (before later : List Entry) → run_record r (before ++ later) ≡ run_record (run_record r before) later
run_more r [] later = refl
run_more r (e ∷ es) later = run_more (after r e) es later

logs_more : (r : Record) (before later : List Entry) → logs r (before ++ later) ≡ logs r before ++ logs (run_record r before) later
logs_more r [] later = refl
logs_more r (e ∷ es) later = ap (λ hs. kept_of r e ∷ hs) (logs_more (after r e) es later)

length_logs : (r : Record) (es : List Entry) → length (logs r es) ≡ length es
length_logs r [] = refl
length_logs r (e ∷ es) = ap suc (length_logs (after r e) es)

run_is : (number : ℕ) (id : List ℕ) (r : Record) (entries : List LogEntry) (es : List Entry) → run_seen (seen_with number id r entries) es ≡ seen_with number id (run_record r es) (entries ++ logs r es)
run_is number id r entries [] = ap (seen_with number id r) (sym (append-nil entries))
run_is number id r entries (e ∷ es) =
    ap (λ (s : Seen). run_seen s es) (seen_step number id r entries e)
    ∙ run_is number id (after r e) (entries ++ kept_of r e ∷ []) es
    ∙ ap (seen_with number id (run_record (after r e) es)) (append_assoc entries (kept_of r e ∷ []) (logs (after r e) es))

log_run : (r : Record) (entries : List LogEntry) (es : List Entry) → IsLogOf r entries → IsLogOf (run_record r es) (entries ++ logs r es)
log_run r entries [] is = subst (IsLogOf r) (sym (append-nil entries)) is
log_run r entries (e ∷ es) is =
    subst (IsLogOf (run_record (after r e) es)) (append_assoc entries (kept_of r e ∷ []) (logs (after r e) es))
    (log_run (after r e) (entries ++ kept_of r e ∷ []) es (log_after r e entries is))

-- the log of an opening
abbrev opening_of : Opening → List LogEntry
opening_of o = opened_log o.config o.dex o.battle

-- a room with a history: its record, and its log
pub room_is : (o : Opening) (h : List Entry) → run_seen (seen_opened o) h ≡ seen_with o.no o.id (run_record (opened o) h) (opening_of o ++ logs (opened o) h)
room_is o h = run_is o.no o.id (opened o) (opening_of o) h

pub room_log : (o : Opening) (h : List Entry) → IsLogOf (run_record (opened o) h) (opening_of o ++ logs (opened o) h)
room_log o h = log_run (opened o) (opening_of o) h (opened_is o)

-- ---- what is read of it

read_is : (conn : ℕ) (r : Record) (entries : List LogEntry) (es : List Entry) → IsLogOf r entries → messages_of conn (role conn r) entries (logs r es) ≡ view conn r es
read_is conn r entries [] is = refl
read_is conn r entries (e ∷ es) is =
    ap (λ m. sent m ++ messages_of conn (log.changed conn (kept_of r e).roles (role conn r)) (entries ++ kept_of r e ∷ []) (logs (after r e) es)) (message_is conn r e entries is)
    ∙ ap (λ (x : Role). sent (message conn r e) ++ messages_of conn x (entries ++ kept_of r e ∷ []) (logs (after r e) es)) (role_next conn r e)
    ∙ ap (λ ms. sent (message conn r e) ++ ms) (read_is conn (after r e) (entries ++ kept_of r e ∷ []) es (log_after r e entries is))

role_past_is : (conn : ℕ) (r : Record) (es : List Entry) → role_past conn (role conn r) (logs r es) ≡ role conn (run_record r es)
role_past_is conn r [] = refl
role_past_is conn r (e ∷ es) = ap (λ (x : Role). role_past conn x (logs (after r e) es)) (role_next conn r e) ∙ role_past_is conn (after r e) es

-- ---- past a place

parts : (o : Opening) (before later : List Entry) → opening_of o ++ logs (opened o) (before ++ later) ≡ (opening_of o ++ logs (opened o) before) ++ logs (run_record (opened o) before) later
parts o before later =
    ap (λ hs. opening_of o ++ hs) (logs_more (opened o) before later)
    ∙ sym (append_assoc (opening_of o) (logs (opened o) before) (logs (run_record (opened o) before) later))

place_is : (o : Opening) (before : List Entry) → length (opening_of o) + length before ≡ length (opening_of o ++ logs (opened o) before)
place_is o before = sym (length-append (opening_of o) (logs (opened o) before) ∙ ap (λ n. length (opening_of o) + n) (length_logs (opened o) before))

messages_past : (conn : ℕ) (o : Opening) (before later : List Entry) → read_past (cursor_at conn o before) (opening_of o ++ logs (opened o) (before ++ later)) ≡ view conn (run_record (opened o) before) later
messages_past conn o before later =
    let earlier : List LogEntry = opening_of o ++ logs (opened o) before in
    let start : Record = run_record (opened o) before in
    let more : List LogEntry = logs start later in
    ap (λ n. messages_of conn (role conn start) (take n (opening_of o ++ logs (opened o) (before ++ later))) (drop n (opening_of o ++ logs (opened o) (before ++ later)))) (place_is o before)
    ∙ ap (λ hs. messages_of conn (role conn start) (take (length earlier) hs) (drop (length earlier) hs)) (parts o before later)
    ∙ ap (λ hs. messages_of conn (role conn start) hs (drop (length earlier) (earlier ++ more))) (take-append_seam earlier more)
    ∙ ap (messages_of conn (role conn start) earlier) (drop-append_seam earlier more)
    ∙ read_is conn start earlier later (room_log o before)

role_end : (conn : ℕ) (o : Opening) (before later : List Entry) → role_past conn (role conn (run_record (opened o) before)) (drop (length (opening_of o) + length before) (opening_of o ++ logs (opened o) (before ++ later))) ≡ role conn (run_record (opened o) (before ++ later))
role_end conn o before later =
    let earlier : List LogEntry = opening_of o ++ logs (opened o) before in
    let start : Record = run_record (opened o) before in
    ap (λ n. role_past conn (role conn start) (drop n (opening_of o ++ logs (opened o) (before ++ later)))) (place_is o before)
    ∙ ap (λ hs. role_past conn (role conn start) (drop (length earlier) hs)) (parts o before later)
    ∙ ap (role_past conn (role conn start)) (drop-append_seam earlier (logs start later))
    ∙ role_past_is conn start later
    ∙ ap (role conn) (sym (run_more (opened o) before later))

pub pulls_view : PullsView
pulls_view conn o before later = record {
  messages = ap (λ (s : Seen). read_past (cursor_at conn o before) s.log) (room_is o (before ++ later)) ∙ messages_past conn o before later;
  end =
      ap (λ (s : Seen). cursor_past (cursor_at conn o before) s.log) (room_is o (before ++ later))
      ∙ (λ i. record {
        conn = conn;
        at = sym (place_is o (before ++ later)) i;
        role = role_end conn o before later i;
      });
}

-- ---- from the first entry on

-- who is no member is shown nothing of the opening
opening_shown : (conn : ℕ) (c : Cast) (told : List Event) → shown_lines conn Outside (stored_in (Some c) told []) ≡ []
opening_shown conn c told = stored_shown conn Outside (Some c) told [] ∙ append-nil _ ∙ no_events (Some c) told

first_by : (conn : ℕ) (o : Opening) (b : Option Start) (hs : List LogEntry) → messages_of conn Outside [] (opened_log o.config o.dex b ++ hs) ≡ messages_of conn Outside (opened_log o.config o.dex b) hs
first_by conn o None hs = refl
first_by conn o (Some s) hs = by (conn == 0)
  where
    none : shown_lines conn Outside (stored_in (Some (cast_with o.config o.dex s)) (bout_with o.config s).told []) ≡ []
    none = opening_shown conn (cast_with o.config o.dex s) (bout_with o.config s).told

    by : (mine : Bool) → sent (log.joined_or conn (cond mine None None) [] (shown_lines conn Outside (stored_in (Some (cast_with o.config o.dex s)) (bout_with o.config s).told []))) ++ messages_of conn Outside (opened_log o.config o.dex (Some s)) hs ≡ messages_of conn Outside (opened_log o.config o.dex (Some s)) hs
    by true = rw none refl
    by false = rw none refl

first_role_by : (conn : ℕ) (o : Opening) (b : Option Start) (hs : List LogEntry) → role_past conn Outside (opened_log o.config o.dex b ++ hs) ≡ role_past conn Outside hs
first_role_by conn o None hs = refl
first_role_by conn o (Some s) hs = refl

nobody_inside : (conn : ℕ) (o : Opening) → role conn (opened o) ≡ Outside
unfolding role_in
nobody_inside conn o = refl

pub pulls_all : PullsAll
pulls_all conn o h = record {
  messages =
      ap (λ (s : Seen). read_past (first_cursor conn) s.log) (room_is o h)
      ∙ first_by conn o o.battle (logs (opened o) h)
      ∙ ap (λ (x : Role). messages_of conn x (opening_of o) (logs (opened o) h)) (sym (nobody_inside conn o))
      ∙ read_is conn (opened o) (opening_of o) h (opened_is o);
  end =
      ap (λ (s : Seen). cursor_past (first_cursor conn) s.log) (room_is o h)
      ∙ (λ i. record {
        conn = conn;
        at = sym (place_is o h) i;
        role = (first_role_by conn o o.battle (logs (opened o) h) ∙ ap (λ (x : Role). role_past conn x (logs (opened o) h)) (sym (nobody_inside conn o)) ∙ role_past_is conn (opened o) h) i;
      });
}

-- ---- what was logged before the last entries

whole_log : (o : Opening) (h more : List Entry) → (run_seen (seen_opened o) (h ++ more)).log
    ≡ (run_seen (seen_opened o) h).log ++ logs (run_record (opened o) h) more
whole_log o h more =
    ap (λ (s : Seen). s.log) (room_is o (h ++ more)) ∙ parts o h more
    ∙ ap (λ (s : Seen). s.log ++ logs (run_record (opened o) h) more) (sym (room_is o h))

-- with each entry the log has one more
pub log_grows : (o : Opening) (h more : List Entry)
    → length (run_seen (seen_opened o) (h ++ more)).log ≡ length (run_seen (seen_opened o) h).log + length more
log_grows o h more =
    ap length (whole_log o h more)
    ∙ length-append (run_seen (seen_opened o) h).log (logs (run_record (opened o) h) more)
    ∙ ap (λ n. length (run_seen (seen_opened o) h).log + n) (length_logs (run_record (opened o) h) more)

pub log_holds : (o : Opening) (h more : List Entry) → length more ≤ length (run_seen (seen_opened o) (h ++ more)).log
log_holds o h more = omega (arith, log_grows o h more)

-- without the last entries it is the log that was before them
pub log_before : (o : Opening) (h more : List Entry)
    → take (length (run_seen (seen_opened o) (h ++ more)).log - length more) (run_seen (seen_opened o) (h ++ more)).log ≡ (run_seen (seen_opened o) h).log
log_before o h more =
    let before : List LogEntry = (run_seen (seen_opened o) h).log in
    let later : List LogEntry = logs (run_record (opened o) h) more in
    let rest : length (run_seen (seen_opened o) (h ++ more)).log - length more ≡ length before = omega (arith, log_grows o h more) in
    ap (λ n. take n (run_seen (seen_opened o) (h ++ more)).log) rest
    ∙ ap (take (length before)) (whole_log o h more)
    ∙ take-append_seam before later

-- who has read a history stands at the end of its log
pub cursor_stands : (conn : ℕ) (o : Opening) (h : List Entry) → (cursor_at conn o h).at ≡ length (run_seen (seen_opened o) h).log
cursor_stands conn o h = place_is o h ∙ ap (λ (s : Seen). length s.log) (sym (room_is o h))

-- ---- the next entry

-- what the room's code tells a connection is its message
pub next_is : (conn : ℕ) (o : Opening) (h : List Entry) (e : Entry)
    → log.message_of conn (role conn (record_in (run_seen (seen_opened o) h))) (log.logged_lines (run_seen (seen_opened o) h).log) (given (record_in (run_seen (seen_opened o) h)) e) ≡ message conn (run_record (opened o) h) e
next_is conn o h e =
    let r : Record = run_record (opened o) h in
    let entries : List LogEntry = opening_of o ++ logs (opened o) h in
    ap (λ (s : Seen). log.message_of conn (role conn (record_in s)) (log.logged_lines s.log) (given (record_in s) e)) (room_is o h)
    ∙ ap (log.message_of conn (role conn r) (log.logged_lines entries)) (blank_given r e)
    ∙ message_is conn r e entries (room_log o h)

-- its record, but for what was logged
pub record_is : (o : Opening) (h : List Entry) → record_in (run_seen (seen_opened o) h) ≡ blank (run_record (opened o) h)
record_is o h = ap record_in (room_is o h)

pub id_is : (o : Opening) (h : List Entry) → (run_seen (seen_opened o) h).id ≡ o.id
id_is o h = ap (λ (s : Seen). s.id) (room_is o h)

-- one entry more
pub seen_run-append : (s : Seen) (es fs : List Entry) → run_seen s (es ++ fs) ≡ run_seen (run_seen s es) fs
seen_run-append s [] fs = refl
seen_run-append s (e ∷ es) fs = seen_run-append (seen_after s e) es fs

pub are_rooms : AreRoomsOfHistories
are_rooms o h =
    let r : Record = run_record (opened o) h in
    let here : record_in (run_seen (seen_opened o) h) ≡ blank r = record_is o h in
    record {
      record_is = here;
      verdict_is = λ e. ap (λ (x : Record). verdict x e) here ∙ blank_verdict r e;
      out_is = λ e. ap (λ (x : Record). out_of x e) here ∙ blank_out r e;
      role_is = λ conn. ap (role conn) here;
      message_is = λ conn e. next_is conn o h e;
    }
