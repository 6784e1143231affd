-- Each text is exactly one entry, in its place, and is applied or refused there by its verdict; but for texts at and after a
-- connection's limit, which make none.
use Rattle.std.specs.Prelude.{◌≡◌, ◌≢◌, ℕ, Bool, true, false, ◌==◌, List, [], ◌∷◌, ◌++◌, Option, Some, None, Ok, Err, if◌then◌else◌}
use Rattle.std.specs.FinMap.{get}
use Rattle.std.specs.List.{filter_map, list_any}
use Rattle.ps_base.specs.declared.hall_why.HallWhy.{HallWhy}
use Rattle.ps_lines.specs.declared.command.Command.{Command}
use Rattle.ps_lines.specs.declared.order.Order.TheVariants as orders
use Rattle.ps_session.specs.Sessions.{Record as Session, is_full}
use Rattle.ps_session.specs.Routes.{taken, after_take}
use Rattle.ps_session.specs.declared.session.TakeFault.TheVariants.{Limit}
use Rattle.ps_hall.specs.declared.entry.HallEntry.{HallEntry}
use Rattle.ps_hall.specs.Records.{Record as HallRecord}
use Rattle.ps_hall.specs.Steps.{applied}
use Rattle.ps_hall.specs.Lines.{refused_line}
use Rattle.ps_hall.specs.Halls as halls
use Rattle.ps_room.specs.declared.entry.Entry.{Entry}
use Rattle.ps_room.specs.Records.{Record}
use Rattle.ps_room.specs.Answers.{IsAnswered}
use Rattle.ps_room.specs.Stories.{Story}
use Rattle.replay_script.specs.declared.item.Item.{Item}
use Rattle.replay_script.specs.declared.item.Item.TheVariants.{Send}
use Rattle.replay_state.specs.declared.place.Placed.{Placed}
use Rattle.replay_state.specs.declared.place.Placed.TheVariants.{Hall, Room}
use Rattle.replay_state.specs.declared.place.Happening.{Happening}
use Rattle.replay_state.specs.declared.place.Happening.TheVariants as happening
use Rattle.replay_state.specs.Setup.{Setup}
use Rattle.replay_state.specs.Worlds.{story_at}
use Rattle.replay_state.specs.Nows.{Now, now_of, record_at}
use Rattle.replay_state.specs.Entries.{Run, run_opening, run_after, run_past, entries, happenings, happenings_from, world_of, ended}
use Rattle.replay_state.specs.Entries.{reports, is_open, text_entry, session_of}

-- ---- the answer that an entry gets

pub record IsHallAnswered (hall : HallRecord) (entry : HallEntry) : Type 0 where
  -- an allowed entry is applied
  pub allowed : halls.verdict hall entry ≡ None → halls.after hall entry ≡ applied hall entry.conn entry.cmd
  -- a refused one leaves the record as it was,
  pub unchanged : (why : HallWhy) → halls.verdict hall entry ≡ Some why → halls.after hall entry ≡ hall
  -- gives its sender the one line of that reason,
  pub told : (why : HallWhy) → halls.verdict hall entry ≡ Some why → halls.message entry.conn hall entry ≡ refused_line why entry.cmd ∷ []
  -- and nobody else anything
  pub silent : (why : HallWhy) (conn : ℕ) → halls.verdict hall entry ≡ Some why → conn ≢ entry.conn → halls.message conn hall entry ≡ []

-- in its place, by what the entries before it leave; an entry of a room stands in a room that is there
pub record IsRoomAnswered (now : Now) (number : ℕ) (entry : Entry) : Type 0 where
  pub room : Record
  pub there : record_at number now ≡ Some room
  pub answer : IsAnswered room entry

abbrev pub IsPlacedAnswered : Now → Placed → Type 0
IsPlacedAnswered now (Hall entry) = IsHallAnswered now.hall entry
IsPlacedAnswered now (Room number entry) = IsRoomAnswered now number entry

-- ---- a text of a script

abbrev pub is_end_of : ℕ → Happening → Bool
is_end_of conn (happening.Entry placed) = false
is_end_of conn (happening.Ended other) = other == conn

-- the place to which a text goes has been given as many texts as it takes: the place of its order, or the hall where its room
-- isn't there
pub data IsAtLimit (now : Now) (text : List ℕ) (session : Session) : Type 0 where
  at_place : (place : Option (List ℕ)) → taken session text ≡ Err (Limit place) → IsAtLimit now text session
  at_hall : (id : List ℕ) (cmd : Command) → taken session text ≡ Ok (orders.Room id cmd) → get now.numbers id ≡ None
      → is_full None (after_take (taken session text) session) ≡ true → IsAtLimit now text session

-- What a text brings about that stands behind the lines `before` of a script, with the lines `later` behind it. `run` is what the
-- lines before it leave, and `session` what is known of the connection there.
pub record IsText (setup : Setup) (items before : List Item) (conn : ℕ) (text : List ℕ) (later : List Item) (run : Run)
    (session : Session) : Type 0 where
  -- below the limit exactly one entry, and the report of the battle that it ended; it gets its answer in its place,
  pub entry : is_open conn (now_of run.world) ≡ true → (placed : Placed)
      → text_entry run.moment (now_of run.world) conn text session ≡ Some placed
      → happenings setup items ≡ happenings_from (run_opening setup) before
      ++ (happening.Entry placed ∷ reports run.moment (now_of run.world) conn placed
      ++ happenings_from (run_after run (Send conn text)) later)
  pub answer : is_open conn (now_of run.world) ≡ true → (placed : Placed)
      → text_entry run.moment (now_of run.world) conn text session ≡ Some placed
      → IsPlacedAnswered (now_of run.world) placed
  -- at the limit the session's end alone,
  pub limit : is_open conn (now_of run.world) ≡ true → text_entry run.moment (now_of run.world) conn text session ≡ None
      → happenings setup items ≡ happenings_from (run_opening setup) before
      ++ (ended run.moment (now_of run.world) conn ++ happenings_from (run_after run (Send conn text)) later)
  -- which is where its place takes no more,
  pub full : text_entry run.moment (now_of run.world) conn text session ≡ None → IsAtLimit (now_of run.world) text session
  -- after it nothing,
  pub past : is_open conn (now_of run.world) ≡ false
      → happenings setup items ≡ happenings_from (run_opening setup) before ++ happenings_from (run_after run (Send conn text)) later
  -- and a connection that sends a text isn't open only where its session was ended before, at its limit
  pub over : is_open conn (now_of run.world) ≡ false → list_any (is_end_of conn) (happenings_from (run_opening setup) before) ≡ true

-- of each text of a script
pub record IsTextOf (setup : Setup) (items before : List Item) (conn : ℕ) (text : List ℕ) (later : List Item) (run : Run) : Type 0 where
  pub session : Session
  pub session_is : session_of conn run.sessions ≡ Some session
  pub text_is : IsText setup items before conn text later run session

abbrev pub HasOneEntryEach : Setup → List Item → Type 0
HasOneEntryEach setup items = (before : List Item) (conn : ℕ) (text : List ℕ) (later : List Item)
    → items ≡ before ++ Send conn text ∷ later → IsTextOf setup items before conn text later (run_past (run_opening setup) before)

-- ---- entries stand in the histories of their places

abbrev pub hall_entry_of : Placed → Option HallEntry
hall_entry_of (Hall entry) = Some entry
hall_entry_of (Room number entry) = None

abbrev pub room_entry_of : ℕ → Placed → Option Entry
room_entry_of number (Hall entry) = None
room_entry_of number (Room other entry) = if other == number then Some entry else None

-- the history of each place in the world of a script is its entries there, in order
pub record AreHistories (setup : Setup) (items : List Item) : Type 0 where
  pub hall : (world_of setup items).hall ≡ filter_map hall_entry_of (entries setup items)
  pub room : (number : ℕ) (story : Story) → story_at number (world_of setup items) ≡ Some story
      → story.history ≡ filter_map (room_entry_of number) (entries setup items)
