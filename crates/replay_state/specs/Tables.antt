-- What a replay prints, counts and notes line by line, by the state that its code keeps in the place of histories. No statement of
-- the top call
-- rests on this file.
use Rattle.std.specs.Prelude.{ℕ, ◌&&◌, Bool, List, [], ◌∷◌, ◌++◌, length, codes, nat_lt, nat_le, if◌then◌else◌}
use Rattle.replay_script.specs.declared.item.Item.{Item}
use Rattle.replay_state.specs.declared.place.Placed.{Placed}
use Rattle.replay_state.specs.declared.place.Happening.{Happening}
use Rattle.replay_state.specs.declared.place.Happening.TheVariants.{Entry, Ended}
use Rattle.replay_state.specs.Setup.{Setup}
use Rattle.ps_session.specs.Sessions.{Record as Session}
use Rattle.replay_state.specs.Houses.{House, now_in, house_of, house_opening, house_after, house_message, house_id}
use Rattle.replay_state.specs.Entries.{State, Line, line_at, moment_after, Run}
use Rattle.replay_state.specs.Counts.{is_refused}
use Rattle.replay_state.specs.Notes.{done_by}
use Rattle.replay_state.specs.Ledgers.{Sheet, entered}
use Rattle.replay_state.specs.Transcript.{line_behind, printed, with_id, over_line}
use Rattle.ps_base.specs.Lists.{each_to}
use Rattle.ps_base.specs.Characters as characters

-- the moment, the hall and the rooms as the code keeps them, and what is known of each connection, in order from 1
pub record Desk : Type 0 where
  pub moment : ℕ
  pub house : House
  pub sessions : List Session

-- what decides what a line brings about
abbrev pub state_in : Desk → State
state_in desk = record { moment = desk.moment; now = now_in desk.house; sessions = desk.sessions }

-- what the code has of a run
abbrev pub desk_of : Run → Desk
desk_of run = record { moment = run.moment; house = house_of run.world; sessions = run.sessions }

-- before the first line
abbrev pub fresh : Setup → Desk
fresh setup = record { moment = 0; house = house_opening setup; sessions = [] }

-- whether a number comes behind the last one, and up to a count
abbrev pub is_next : ℕ → ℕ → ℕ → Bool
is_next last count conn = nat_lt last conn && nat_le conn count

-- the texts for those of these numbers that each come behind the last one that was taken, up to a count
abbrev pub each_of : (ℕ → List ℕ) → ℕ → ℕ → List ℕ → List ℕ
each_of text_for count last [] = []
each_of text_for count last (conn ∷ conns) = if is_next last count conn then text_for conn
    ++ each_of text_for count conn conns else each_of text_for count last conns

-- a line behind the digits of its connection: the first of a message, and a further one
abbrev pub first_behind : List ℕ → List ℕ → List ℕ
first_behind digits line = digits ++ codes "< " ++ line_behind digits line ++ characters.newline ∷ []

abbrev pub further_behind : List ℕ → List ℕ → List ℕ
further_behind digits line = digits ++ codes ". " ++ line_behind digits line ++ characters.newline ∷ []

-- what is printed for a connection at an entry
abbrev pub printed_for : House → Placed → ℕ → List ℕ
printed_for house placed conn = printed conn (with_id (house_id house placed) (house_message conn house placed))

-- what is printed at an entry, where so many connections have opened
abbrev pub entry_text : ℕ → House → Placed → List ℕ
entry_text count house placed = each_to (printed_for house placed) count

abbrev pub happening_text : ℕ → House → Happening → List ℕ
happening_text count house (Entry placed) = entry_text count house placed
happening_text count house (Ended conn) = over_line conn

abbrev pub happening_after : House → Happening → House
happening_after house (Entry placed) = house_after house placed
happening_after house (Ended conn) = house

-- what is printed of these happenings
abbrev pub happenings_text : ℕ → House → List Happening → List ℕ
happenings_text count house [] = []
happenings_text count house (happening ∷ happenings) = happening_text count house happening
    ++ happenings_text count (happening_after house happening) happenings

-- the hall and the rooms after them
abbrev pub happenings_after : House → List Happening → House
happenings_after house [] = house
happenings_after house (happening ∷ happenings) = happenings_after (happening_after house happening) happenings

abbrev pub line_text : Desk → Line → List ℕ
line_text desk line = happenings_text (length line.sessions) desk.house line.happenings

-- what is printed at a line
abbrev pub item_text : Desk → Item → List ℕ
item_text desk item = line_text desk (line_at (state_in desk) item)

abbrev pub line_after : Desk → Item → Line → Desk
line_after desk item line = record {
  moment = moment_after desk.moment item;
  house = happenings_after desk.house line.happenings;
  sessions = line.sessions;
}

-- what a line leaves
abbrev pub item_after : Desk → Item → Desk
item_after desk item = line_after desk item (line_at (state_in desk) item)

-- what is printed at these lines
abbrev pub text_from : Desk → List Item → List ℕ
text_from desk [] = []
text_from desk (item ∷ items) = item_text desk item ++ text_from (item_after desk item) items

-- what these lines leave
abbrev pub desk_after : Desk → List Item → Desk
desk_after desk [] = desk
desk_after desk (item ∷ items) = desk_after (item_after desk item) items

-- ---- the ledger

-- with an entry more
abbrev pub entry_ledger : House → Placed → Sheet → Sheet
entry_ledger house placed sheet = entered (is_refused (now_in house) placed) (done_by (now_in house) placed) sheet

abbrev pub happening_ledger : House → Happening → Sheet → Sheet
happening_ledger house (Entry placed) sheet = entry_ledger house placed sheet
happening_ledger house (Ended conn) sheet = sheet

-- with the entries of these happenings
abbrev pub happenings_ledger : House → List Happening → Sheet → Sheet
happenings_ledger house [] sheet = sheet
happenings_ledger house (happening ∷ happenings) sheet = happenings_ledger (happening_after house happening) happenings
    (happening_ledger house happening sheet)

-- with the entries of a line
abbrev pub item_ledger : Desk → Item → Sheet → Sheet
item_ledger desk item sheet = happenings_ledger desk.house (line_at (state_in desk) item).happenings sheet

-- with the entries of these lines
abbrev pub ledger_from : Desk → List Item → Sheet → Sheet
ledger_from desk [] sheet = sheet
ledger_from desk (item ∷ items) sheet = ledger_from (item_after desk item) items (item_ledger desk item sheet)
