-- What an entry does to the hall, and what each connection is sent at it.
use Rattle.std.specs.Prelude.{◌≡◌, ℕ, List, [], ◌∷◌, ◌++◌, ◌==◌, ◌-◌, length, take, drop, slice_get, unwrap_or, Option, Some, None}
use Rattle.std.specs.Prelude.{if◌then◌else◌}
use Rattle.std.specs.List.{flat_map}
use Rattle.ps_base.specs.declared.hall_why.HallWhy.{HallWhy}
use Rattle.ps_base.specs.Messages.{sent}
use Rattle.ps_lines.specs.declared.command.HallCmd.{HallCmd}
use Rattle.ps_users.specs.Steps.{granted}
use Rattle.ps_hall.specs.declared.entry.HallEntry.{HallEntry}
use Rattle.ps_hall.specs.declared.notice.Notice.{Notice}
use Rattle.ps_hall.specs.declared.outcome.HallOut.{HallOut}
use Rattle.ps_hall.specs.declared.outcome.HallVerdict.TheVariants.{Applied, Refused}
use Rattle.ps_hall.specs.declared.cursor.Cursor.{Cursor}
use Rattle.ps_hall.specs.Records.{Record}
use Rattle.ps_hall.specs.Refusals.{refusal}
use Rattle.ps_hall.specs.Steps.{applied, start_of}
use Rattle.ps_hall.specs.Lines.{refused_line}
use Rattle.ps_hall.specs.Told.{notice, told}

-- why an entry is refused; None where it is allowed
abbrev pub verdict : Record → HallEntry → Option HallWhy
verdict hall entry = refusal hall entry.conn entry.cmd

-- ---- the step

abbrev pub after_by : Option HallWhy → Record → ℕ → HallCmd → Record
after_by (Some why) hall conn cmd = hall
after_by None hall conn cmd = applied hall conn cmd

-- the record after an entry; a refused one leaves it as it was
abbrev pub after : Record → HallEntry → Record
after hall entry = after_by (verdict hall entry) hall entry.conn entry.cmd

-- the record after a history
abbrev pub run_record : Record → List HallEntry → Record
run_record hall [] = hall
run_record hall (entry ∷ entries) = run_record (after hall entry) entries

-- ---- the answer of the call

abbrev pub out_by : Option HallWhy → Record → ℕ → HallCmd → HallOut
out_by (Some why) hall conn cmd = record { verdict = Refused why; badge = None; start = None }
out_by None hall conn cmd = record { verdict = Applied; badge = granted hall.users cmd; start = start_of hall conn cmd }

-- whether an entry was applied, the badge that its sender has from it on, and the battle that it starts
abbrev pub out_of : Record → HallEntry → HallOut
out_of hall entry = out_by (verdict hall entry) hall entry.conn entry.cmd

-- ---- what is told

-- a refused entry gives its sender the one line of its reason
abbrev pub notices_by : Option HallWhy → Record → ℕ → HallCmd → List Notice
notices_by (Some why) hall conn cmd = notice conn (refused_line why cmd ∷ []) ∷ []
notices_by None hall conn cmd = told hall (applied hall conn cmd) conn cmd

-- all that an entry tells
abbrev pub notices : Record → HallEntry → List Notice
notices hall entry = notices_by (verdict hall entry) hall entry.conn entry.cmd

abbrev pub lines_for : ℕ → Notice → List (List ℕ)
lines_for conn one_notice = if one_notice.conn == conn then one_notice.lines else []

-- what a connection is told by these notices
abbrev pub message_of : ℕ → List Notice → List (List ℕ)
message_of conn ns = flat_map (lines_for conn) ns

-- what a connection is sent at an entry
abbrev pub message : ℕ → Record → HallEntry → List (List ℕ)
message conn hall entry = message_of conn (notices hall entry)

-- all that a connection is sent over a history, message by message
abbrev pub view : ℕ → Record → List HallEntry → List (List (List ℕ))
view conn hall [] = []
view conn hall (entry ∷ entries) = sent (message conn hall entry) ++ view conn (after hall entry) entries

-- ---- what the hall keeps for those who look later

-- the record, and what each entry told
pub record Seen : Type 0 where
  pub state : Record
  pub log : List (List Notice)

abbrev pub seen_opened : Record → Seen
seen_opened hall = record { state = hall; log = [] }

-- the hall after an entry
abbrev pub seen_after : Seen → HallEntry → Seen
seen_after seen entry = record { state = after seen.state entry; log = seen.log ++ notices seen.state entry ∷ [] }

-- the hall after a history
abbrev pub run_seen : Seen → List HallEntry → Seen
run_seen seen [] = seen
run_seen seen (entry ∷ entries) = run_seen (seen_after seen entry) entries

-- the messages of what was kept, to a connection
abbrev pub pulled : ℕ → List (List Notice) → List (List (List ℕ))
pulled conn [] = []
pulled conn (ns ∷ log) = sent (message_of conn ns) ++ pulled conn log

-- the messages past a cursor
abbrev pub pulled_past : Cursor → Seen → List (List (List ℕ))
pulled_past cursor seen = pulled cursor.conn (drop cursor.at seen.log)

-- before the first entry
abbrev pub first_cursor : ℕ → Cursor
first_cursor conn = record { conn = conn; at = 0 }

-- at the end of what is kept
abbrev pub cursor_past : Cursor → Seen → Cursor
cursor_past cursor seen = record { conn = cursor.conn; at = length seen.log }

-- of what was kept, all but what the last so many entries told
abbrev pub before_last : ℕ → Seen → Seen
before_last left seen = record seen { log = take (length seen.log - left) seen.log }

-- What who has passed the history `before` is given of a hall whose history goes on with `later`: the part of its view past
-- that place, and the cursor stands at the end.
pub record IsPastView (conn : ℕ) (hall : Record) (before later : List HallEntry) (seen : Seen) (cursor : Cursor) : Type 0 where
  pub messages : pulled_past cursor seen ≡ view conn (run_record hall before) later
  pub end : cursor_past cursor seen ≡ record { conn = conn; at = length (before ++ later) }

abbrev pub PullsView : Type 0
PullsView = (conn : ℕ) (hall : Record) (before later : List HallEntry)
    → IsPastView conn hall before later (run_seen (seen_opened hall) (before ++ later)) (record { conn = conn; at = length before })

-- ---- for the code: what the last entry told

abbrev pub last_told : List (List Notice) → List Notice
last_told log = unwrap_or (slice_get log (length log - 1)) []
