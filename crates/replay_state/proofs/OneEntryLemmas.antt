-- Each text of a script is one entry in its place, below its connection's limit there.
use Rattle.std.proofs.Common.{◌≡◌, ℕ, ◌-◌, ◌≤◌, Bool, true, false, cond, List, [], ◌∷◌, ◌++◌, length, get_or, Option, Some, None, Result, Ok, Err, IfOk, IfSome, is_some, refl, sym, ap, ◌∙◌, subst, arith, append_assoc}
use Rattle.std.specs.Option.{option_map}
use Rattle.std.specs.FinMap.{get}
use Rattle.std.specs.Str.Lines.{lines}
use Rattle.std.proofs.lemmas.Option.{slice_get-get_or}
use Rattle.ps_base.specs.declared.badge.Badge.{Badge}
use Rattle.ps_lines.specs.declared.command.BadWhy.TheVariants as bad
use Rattle.ps_lines.specs.declared.command.Command.{Command}
use Rattle.ps_lines.specs.declared.order.Order.{Order}
use Rattle.ps_lines.specs.declared.order.Order.TheVariants as orders
use Rattle.ps_session.specs.Sessions.{Record as Session, is_full}
use Rattle.ps_session.specs.Routes.{bad_order, taken, after_take}
use Rattle.ps_session.specs.declared.session.TakeFault.{TakeFault}
use Rattle.ps_session.specs.declared.session.TakeFault.TheVariants.{BadText, Limit, NoMemory}
use Rattle.ps_room.specs.Records.{Record}
use Rattle.ps_room.proofs.AnswerLemmas.{answered}
use Rattle.ps_room.specs.Stories.{Story}
use Rattle.replay_script.specs.declared.item.Item.{Item}
use Rattle.replay_script.specs.declared.item.Item.TheVariants.{Send}
use Rattle.replay_script.specs.Scripts.{start, AreItems, IsScript}
use Rattle.replay_state.specs.declared.place.Placed.{Placed}
use Rattle.replay_state.specs.declared.place.Placed.TheVariants.{Hall, Room}
use Rattle.replay_state.specs.declared.place.Happening.{Happening}
use Rattle.replay_state.specs.Setup.{Setup}
use Rattle.replay_state.specs.Worlds.{World, record_of, hall_in, story_at}
use Rattle.replay_state.specs.Nows.{Now, now_of}
use Rattle.replay_state.specs.Entries.{ended, entry_in_room, entry_in_hall, numbered_entry, order_entry, text_entry, entry_happenings, session_of, is_open, idle, sent_by, Run, state_of, run_opening, line_in, run_after, run_past, happenings_from, happenings}
use Rattle.replay_state.specs.OneEntry.{IsPlacedAnswered, IsAtLimit, at_place, at_hall, IsText, IsTextOf, HasOneEntryEach}
use Rattle.replay_state.proofs.CountLemmas.{sender_counted}
use Rattle.replay_state.proofs.HallLemmas.{hall_answered}
use Rattle.replay_state.proofs.NumberLemmas.{IsNumbered, numbered_opening}
use Rattle.replay_state.proofs.OverLemmas.{over}
use Rattle.replay_state.proofs.PlaceLemmas.{IsHere, text_here, numbered_past}
use Rattle.replay_state.proofs.ReadLemmas.{IsTaken, text_taken, text_utf8, text_short}
use Rattle.replay_state.proofs.RouteLemmas.{IsNamed, IsOfText, taken_asked}
use Rattle.replay_state.proofs.TextLemmas.{record_is}

-- ---- answers

there_record : (o : Option Story) → is_some o ≡ true → (r : Record) × (option_map record_of o ≡ Some r)
there_record None e = absurd cc
there_record (Some s) e = (record_of s, refl)

placed_answered : (w : World) (p : Placed) → IsHere w p → IsPlacedAnswered (now_of w) p
placed_answered w (Hall e) here = hall_answered (hall_in w) e
placed_answered w (Room number e) here =
    let found = there_record (story_at number w) here in
    record { room = found.0; there = record_is number w ∙ found.1; answer = answered found.0 e }

text_answered : (w : World) (moment conn : ℕ) (text : List ℕ) (s : Session) → IsNumbered w → (p : Placed) → text_entry moment (now_of w) conn text s ≡ Some p → IsPlacedAnswered (now_of w) p
text_answered w moment conn text s n p is = placed_answered w p (subst (λ (o : Option Placed). IfSome o (IsHere w)) is (text_here w moment conn text s n))

-- ---- the limit

module _ (moment : ℕ) (n : Now) (conn : ℕ) (text : List ℕ) (s : Session) where
  -- an order for a room that is there makes an entry
  room_entry : (number : ℕ) (cmd : Command) (o : Option Badge) → IsNamed o → entry_in_room moment conn number cmd o ≡ None → ⊥
  room_entry number cmd None named none = named
  room_entry number cmd (Some badge) named none = cc

  -- one for a room that isn't makes none only where the hall takes no more
  hall_full : (id : List ℕ) (cmd : Command) (full : Bool) → taken s text ≡ Ok (orders.Room id cmd) → get n.numbers id ≡ None → is_full None (after_take (Ok (orders.Room id cmd)) s) ≡ full
      → entry_in_hall moment conn (cond full None (Some (bad_order bad.NoSuchRoom))) ≡ None → IsAtLimit n text s
  hall_full id cmd true take missing full none = at_hall id cmd take missing (ap (λ (t : Result Order TakeFault). is_full None (after_take t s)) take ∙ full)
  hall_full id cmd false take missing full none = absurd cc

  number_full : (id : List ℕ) (cmd : Command) (o : Option ℕ) → taken s text ≡ Ok (orders.Room id cmd) → get n.numbers id ≡ o → IsNamed s.badge
      → numbered_entry moment conn o cmd (after_take (Ok (orders.Room id cmd)) s) ≡ None → IsAtLimit n text s
  number_full id cmd None take missing named none = hall_full id cmd (is_full None (after_take (Ok (orders.Room id cmd)) s)) take missing refl none
  number_full id cmd (Some number) take found named none = absurd (room_entry number cmd s.badge named none)

  take_full : (take : Result Order TakeFault) → taken s text ≡ take → IsTaken take → IfOk take (IsOfText s.badge) → order_entry moment n conn take (after_take take s) ≡ None → IsAtLimit n text s
  take_full (Ok (orders.Hall cmd)) is readable asked none = absurd cc
  take_full (Ok (orders.Room id cmd)) is readable asked none = number_full id cmd (get n.numbers id) is refl asked none
  take_full (Err BadText) is readable asked none = absurd readable
  take_full (Err (Limit place)) is readable asked none = at_place place is
  take_full (Err NoMemory) is readable asked none = absurd readable

  text_full : IsTaken (taken s text) → text_entry moment n conn text s ≡ None → IsAtLimit n text s
  text_full readable none = take_full (taken s text) refl readable (taken_asked s text) none

-- ---- the lines before a line

happenings_from-append : (r : Run) (is js : List Item) → happenings_from r (is ++ js) ≡ happenings_from r is ++ happenings_from (run_past r is) js
happenings_from-append r [] js = refl
happenings_from-append r (i ∷ is) js =
    ap (λ (x : List Happening). (line_in r i).happenings ++ x) (happenings_from-append (run_after r i) is js)
    ∙ sym (append_assoc (line_in r i).happenings (happenings_from (run_after r i) is) (happenings_from (run_past (run_after r i) is) js))

-- ---- the text of a line

-- who has a session
session_there : (ss : List Session) (conn : ℕ) → (1 ≤ conn) × (conn ≤ length ss) → (s : Session) × (session_of conn ss ≡ Some s)
session_there [] conn within = absurd (omega (arith, within.0, within.1))
session_there (s ∷ ss) conn within = (get_or (s ∷ ss) (conn - 1) s, slice_get-get_or (s ∷ ss) (conn - 1) s (omega (arith, within.0, within.1)))

module _ (s : Setup) (items before : List Item) (conn : ℕ) (text : List ℕ) (later : List Item) (parts : items ≡ before ++ Send conn text ∷ later) where
  abbrev run : Run
  run = run_past (run_opening s) before

  abbrev now : Now
  now = now_of run.world

  abbrev first : List Happening
  first = happenings_from (run_opening s) before

  abbrev rest : List Happening
  rest = happenings_from (run_after run (Send conn text)) later

  whole : happenings s items ≡ first ++ ((line_in run (Send conn text)).happenings ++ rest)
  whole = ap (happenings_from (run_opening s)) parts ∙ happenings_from-append (run_opening s) before (Send conn text ∷ later)

  -- by what the line itself brings about
  whole_is : (xs : List Happening) → (line_in run (Send conn text)).happenings ≡ xs → happenings s items ≡ first ++ (xs ++ rest)
  whole_is xs is = whole ∙ ap (λ (x : List Happening). first ++ (x ++ rest)) is

  line_made : (session : Session) (o : Option Placed) → session_of conn run.sessions ≡ Some session → is_open conn now ≡ true → text_entry run.moment now conn text session ≡ o → (line_in run (Send conn text)).happenings ≡ entry_happenings run.moment now conn o
  line_made session o known online made =
      ap (λ (b : Bool). (cond b (sent_by (state_of run) conn text (session_of conn run.sessions)) (idle run.sessions)).happenings) online
      ∙ ap (λ (x : Option Session). (sent_by (state_of run) conn text x).happenings) known
      ∙ ap (entry_happenings run.moment now conn) made

  line_idle : is_open conn now ≡ false → (line_in run (Send conn text)).happenings ≡ []
  line_idle offline = ap (λ (b : Bool). (cond b (sent_by (state_of run) conn text (session_of conn run.sessions)) (idle run.sessions)).happenings) offline

  is_text : (symbols bytes : List ℕ) (session : Session) → length s.config.rooms ≤ 16 → AreItems (start symbols) (lines bytes) (before ++ Send conn text ∷ later) → session_of conn run.sessions ≡ Some session → IsText s items before conn text later run session
  is_text symbols bytes session le script known = record {
    entry = λ online p made. whole_is (entry_happenings run.moment now conn (Some p)) (line_made session (Some p) known online made);
    answer = λ online p made. text_answered run.world run.moment conn text session (numbered_past (run_opening s) before (numbered_opening s le)) p made;
    limit = λ online none. whole_is (ended run.moment now conn) (line_made session None known online none);
    full = text_full run.moment now conn text session (text_taken session text (text_utf8 (start symbols) (lines bytes) before conn text later script) (text_short (start symbols) (lines bytes) before conn text later script));
    past = λ offline. whole_is [] (line_idle offline);
    over = over s symbols (lines bytes) before conn text later script;
  }

  is_text_of : (symbols bytes : List ℕ) → length s.config.rooms ≤ 16 → AreItems (start symbols) (lines bytes) (before ++ Send conn text ∷ later) → IsTextOf s items before conn text later run
  is_text_of symbols bytes le script =
      let known = session_there run.sessions conn (sender_counted s symbols bytes before conn text later script) in
      record { session = known.0; session_is = known.1; text_is = is_text symbols bytes known.0 le script known.1 }

pub one_entry_each : (s : Setup) (symbols bytes : List ℕ) (items : List Item) → length s.config.rooms ≤ 16 → IsScript symbols bytes items → HasOneEntryEach s items
one_entry_each s symbols bytes items le script = λ before conn text later parts. is_text_of s items before conn text later parts symbols bytes le (subst (AreItems (start symbols) (lines bytes)) parts script)
