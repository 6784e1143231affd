-- What an entry does to a room, and what each connection is sent at it.
use Rattle.std.specs.Prelude.{◌≡◌, ℕ, ◌-◌, Bool, true, false, List, [], ◌∷◌, ◌++◌, length, take, drop, Option, Some, None, ◌==◌}
use Rattle.std.specs.Prelude.{if◌then◌else◌}
use Rattle.std.specs.List.{filter_map}
use Rattle.std.specs.Option.{option_to_list}
use Rattle.ps_base.specs.declared.why.Why.{Why}
use Rattle.ps_base.specs.Whys.{error_line}
use Rattle.ps_base.specs.Messages.{sent}
use Rattle.ps_lines.specs.declared.command.Command.{Command}
use Rattle.ps_lines.specs.declared.command.Command.TheVariants.{Join}
use Rattle.ps_event.specs.declared.audience.Audience.TheVariants.{One}
use Rattle.ps_event.specs.declared.event.Event.{Event}
use Rattle.ps_chat.specs.Lines.{Line}
use Rattle.ps_chat.specs.Lookups.{member}
use Rattle.ps_chat.specs.Records.{Opening as ChatOpening, Record as ChatRecord}
use Rattle.ps_chat.specs.Rooms.{room_of, presents}
use Rattle.ps_chat.specs.Told.{lines, joiner}
use Rattle.ps_chat.specs.Changes.{record_after}
use Rattle.ps_chat.specs.Verdicts.{verdict as chat_verdict}
use Rattle.ps_chat.specs.declared.present.Present.{Present}
use Rattle.ps_view.specs.declared.role.Role.{Role}
use Rattle.ps_dex.specs.Figures.{figures_of}
use Rattle.battle_rounds.specs.declared.bout.Bout.{Bout}
use Rattle.battle_rounds.specs.Bouts.{IsBout}
use Rattle.battle_rounds.specs.Rounds.{Outcome}
use Rattle.battle_rounds.specs.Casts.{Cast, event_text, event_texts}
use Rattle.battle_rounds.specs.declared.decision.Decision.{Decision}
use Rattle.battle_rounds.specs.Fights.{Fight, refusal_in, outcome_in, outcome_of, CanDecide, requests, open_request}
use Rattle.ps_room.specs.declared.entry.Entry.{Entry}
use Rattle.ps_room.specs.Tolds as logs
use Rattle.ps_room.specs.Tolds.{Logged, Joined, Told}
use Rattle.ps_room.specs.Lines.{kind_line, title_line, users_line}
use Rattle.ps_room.specs.Records.{Record, presents_of, cast_in, logged_events}
use Rattle.ps_room.specs.Roles.{role_of, role_of_member, side_of_member, sees}

-- ---- the verdict

-- the member that makes an entry
abbrev pub sender_of : Record → Entry → Option Present
sender_of room entry = member entry.conn (presents_of room)

-- why the battle refuses an entry, after the chat has allowed it
abbrev pub refusal_by_battle : Option Fight → Option Present → Command → Option Why
refusal_by_battle None me cmd = None
refusal_by_battle (Some fight) me cmd = refusal_in fight.cast.dex fight.bout (side_of_member fight.cast me) cmd

abbrev pub or_else : Option Why → Option Why → Option Why
or_else (Some why) other = Some why
or_else None other = other

-- why an entry is refused; None where it is allowed
unfoldable pub verdict : Record → Entry → Option Why
verdict room entry = or_else (chat_verdict room.opening room.chat entry.conn entry.badge entry.moment entry.cmd)
    (refusal_by_battle room.battle (sender_of room entry) entry.cmd)

-- ---- what an entry gives

-- the line of a refused one, which goes to its sender alone
abbrev pub refused_line : ℕ → Why → Line
refused_line conn why = record { audience = One conn; logged = false; text = error_line why }

-- the chat's lines of an allowed one
abbrev pub chat_lines : Record → Entry → List Line
chat_lines room entry = lines room.opening room.chat entry.conn entry.badge entry.moment entry.cmd

-- what an allowed one makes of the battle
abbrev pub outcome_by : Fight → Option Present → Command → Outcome
outcome_by fight me cmd = outcome_in fight.cast.dex fight.bout (side_of_member fight.cast me) cmd

-- the events of it
abbrev pub events_by : Option Fight → Option Present → Command → List Event
events_by None me cmd = []
events_by (Some fight) me cmd = (outcome_by fight me cmd).told

-- the lines of the chat, and the requests that follow the battle's events
abbrev pub lines_by : Option Fight → Option Present → Command → List Line → List Line
lines_by None me cmd ls = ls
lines_by (Some fight) me cmd ls = let after = outcome_by fight me cmd in ls ++ requests fight.cast after.bout after.told

abbrev pub allowed_events : Record → Entry → List Event
allowed_events room entry = events_by room.battle (sender_of room entry) entry.cmd

-- the lines of an allowed one
abbrev pub allowed_lines : Record → Entry → List Line
allowed_lines room entry = lines_by room.battle (sender_of room entry) entry.cmd (chat_lines room entry)

-- the member that the sender becomes by a Join
abbrev pub joiner_of : Record → Entry → Present
joiner_of room entry = joiner (room_of room.opening room.chat) entry.conn entry.badge

-- what a room with these members tells who joins, before what was logged
abbrev pub head : Record → List Present → List (List ℕ)
head room ps = kind_line room.opening.battle ∷ title_line room.opening.title ∷ users_line room.opening.groups ps ∷ []

-- the request of the open round for a member who joins
abbrev pub request_for : Option Fight → Present → Option (List ℕ)
request_for None present = None
request_for (Some fight) present = open_request fight (side_of_member fight.cast (Some present))

-- the room with the joiner itself, what was logged before, and what the joiner is shown of it
abbrev pub joined : Record → Entry → Joined
joined room entry = record {
  head = head room (presents_of room ++ joiner_of room entry ∷ []);
  logged = length room.logged;
  role = role_of_member (cast_in room.battle) (joiner_of room entry);
  request = request_for room.battle (joiner_of room entry);
}

abbrev pub is_join : Command → Bool
is_join (Join room) = true
is_join other = false

abbrev pub joined_if : Bool → Record → Entry → Option Joined
joined_if true room entry = Some (joined room entry)
joined_if false room entry = None

abbrev pub told_by : Option Why → Record → Entry → Told
told_by (Some why) room entry = record { events = []; lines = refused_line entry.conn why ∷ []; joined = None }
told_by None room entry = record {
  events = allowed_events room entry;
  lines = allowed_lines room entry;
  joined = joined_if (is_join entry.cmd) room entry;
}

-- all that an entry gives
unfoldable pub told : Record → Entry → Told
told room entry = told_by (verdict room entry) room entry

-- ---- the step

abbrev pub logged_line : Line → Option Logged
logged_line line = if line.logged then Some (logs.Text line.text) else None

-- the texts of the lines that are logged
abbrev pub logged_lines : List Line → List Logged
logged_lines ls = filter_map logged_line ls

-- what is logged of events and lines
abbrev pub logged_of : List Event → List Line → List Logged
logged_of events ls = logged_events events ++ logged_lines ls

-- the battle after an entry that is applied
abbrev pub battle_after : Option Fight → Option Present → Command → Option Fight
battle_after None me cmd = None
battle_after (Some fight) me cmd = Some (record fight { bout = (outcome_by fight me cmd).bout })

-- ---- for the code: a battle with other rounds

abbrev pub with_bout : Option Fight → Option Bout → Option Fight
with_bout None bout = None
with_bout (Some fight) None = Some fight
with_bout (Some fight) (Some bout) = Some (record fight { bout = bout })

abbrev pub CanGoOn : Option Fight → Option Bout → Type 0
CanGoOn (Some fight) (Some bout) = IsBout (figures_of fight.cast.dex) bout
CanGoOn other bout = Unit {0}

-- a room without a battle has none
abbrev pub IsIdle : Option Fight → Option Bout → Type 0
IsIdle None bout = bout ≡ None
IsIdle (Some fight) bout = Unit {0}

-- ---- for the code: what an entry gives, by what its command comes to at the battle

-- the command comes to this, and it can be done
abbrev pub IsDecided : Option Fight → Option Present → Command → Decision → Type 0
IsDecided None me cmd decision = Unit {0}
IsDecided (Some fight) me cmd decision = CanDecide fight.bout decision
    × (outcome_of fight.cast.dex fight.bout decision ≡ outcome_by fight me cmd)

abbrev pub CanDecideIn : Option Fight → Decision → Type 0
CanDecideIn None decision = Unit {0}
CanDecideIn (Some fight) decision = CanDecide fight.bout decision

abbrev pub events_from : Option Fight → Decision → List Event
events_from None decision = []
events_from (Some fight) decision = (outcome_of fight.cast.dex fight.bout decision).told

abbrev pub lines_from : Option Fight → Decision → List Line → List Line
lines_from None decision ls = ls
lines_from (Some fight) decision ls = let after = outcome_of fight.cast.dex fight.bout decision in ls
    ++ requests fight.cast after.bout after.told

abbrev pub battle_from : Option Fight → Decision → Option Fight
battle_from None decision = None
battle_from (Some fight) decision = Some (record fight { bout = (outcome_of fight.cast.dex fight.bout decision).bout })

-- ---- the record after

-- the record after an entry that is applied
abbrev pub applied : Record → Entry → Record
applied room entry = record {
  opening = room.opening;
  chat = record_after room.opening.groups room.chat entry.conn entry.badge entry.moment entry.cmd;
  logged = room.logged ++ logged_of (allowed_events room entry) (allowed_lines room entry);
  battle = battle_after room.battle (sender_of room entry) entry.cmd;
}

abbrev pub after_by : Option Why → Record → Entry → Record
after_by (Some why) room entry = room
after_by None room entry = applied room entry

-- the record after an entry; a refused one leaves it as it was
unfoldable pub after : Record → Entry → Record
after room entry = after_by (verdict room entry) room entry

-- the record after a history
abbrev pub run_record : Record → List Entry → Record
run_record room [] = room
run_record room (entry ∷ entries) = run_record (after room entry) entries

-- ---- what a connection is sent

-- what a connection is to a room, by its member
unfoldable pub role_in : ℕ → Option Cast → ChatOpening → ChatRecord → Role
role_in conn cast opening chat = role_of cast (member conn (presents opening chat))

abbrev pub role : ℕ → Record → Role
role conn room = role_in conn (cast_in room.battle) room.opening room.chat

abbrev pub seen_text : ℕ → Role → Line → Option (List ℕ)
seen_text conn role line = if sees conn role line.audience then Some line.text else None

-- the texts of the lines that a connection in this role sees
abbrev pub seen_texts : ℕ → Role → List Line → List (List ℕ)
seen_texts conn role ls = filter_map (seen_text conn role) ls

-- the lines of events that a role is shown
abbrev pub shown_events : Option Cast → Role → List Event → List (List ℕ)
shown_events None role events = []
shown_events (Some cast) role events = event_texts cast role events

-- ---- the backlog

-- a line of the chat is shown to every member, and an event in the form that is for its role
abbrev pub shown_item : Option Cast → Role → Logged → Option (List ℕ)
shown_item cast role (logs.Text text) = Some text
shown_item None role (logs.Event event) = None
shown_item (Some cast) role (logs.Event event) = event_text cast role event

abbrev pub shown_items : Option Cast → Role → List Logged → List (List ℕ)
shown_items cast role items = filter_map (shown_item cast role) items

-- of a chat the last hundred, of a battle all
abbrev pub backlog_items : Option Cast → List Logged → List Logged
backlog_items None items = drop (length items - 100) items
backlog_items (Some cast) items = items

-- the backlog of who joined when so much was logged
abbrev pub backlog_of : Option Cast → Joined → List Logged → List (List ℕ)
backlog_of cast join items = shown_items cast join.role (backlog_items cast (take join.logged items))

-- ---- messages

abbrev pub joined_for : ℕ → ℕ → Told → Option Joined
joined_for conn sender telling = if conn == sender then telling.joined else None

abbrev pub joined_or : Option Joined → Option Cast → List Logged → List (List ℕ) → List (List ℕ)
joined_or None cast items texts = texts
joined_or (Some join) cast items texts = join.head ++ backlog_of cast join items ++ option_to_list join.request

-- What a connection in this role is sent of what an entry of `sender` gives: who joins is sent the room in the place of the
-- lines, and everybody else the lines that it sees, those of events first.
abbrev pub message_of : ℕ → Role → ℕ → Told → Option Cast → List Logged → List (List ℕ)
message_of conn role sender telling cast items = joined_or (joined_for conn sender telling) cast items
    (shown_events cast role telling.events ++ seen_texts conn role telling.lines)

-- what a connection is sent at an entry, by its role before it
abbrev pub message : ℕ → Record → Entry → List (List ℕ)
message conn room entry = message_of conn (role conn room) entry.conn (told room entry) (cast_in room.battle) room.logged

-- all that a connection is sent over a history, message by message
abbrev pub view : ℕ → Record → List Entry → List (List (List ℕ))
view conn room [] = []
view conn room (entry ∷ entries) = sent (message conn room entry) ++ view conn (after room entry) entries
