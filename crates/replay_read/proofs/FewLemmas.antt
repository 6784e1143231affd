-- What a replay prints is for the first 1,024 connections.
use Rattle.std.proofs.Common.{◌≡◌, ℕ, zero, suc, ◌+◌, ◌≤◌, ◌==◌, Bool, true, false, cond, List, [], ◌∷◌, ◌++◌, length, map, Option, Some, None, refl, arith}
use Rattle.std.specs.Prelude.{nat_le}
use Rattle.std.specs.Str.Lines.{lines}
use Rattle.std.proofs.lemmas.Bool.Decides.{nat_tests}
use Rattle.ps_session.specs.Sessions.{Record as Session}
use Rattle.ps_room.specs.declared.outcome.Ending.{Ending}
use Rattle.replay_script.specs.declared.item.Item.{Item}
use Rattle.replay_script.specs.declared.item.Item.TheVariants.{Nothing, Moment, Group, Open, Send, Close}
use Rattle.replay_script.specs.Scripts.{Seen, start, fault_of, next, AreItems, IsScript}
use Rattle.replay_state.specs.declared.place.Placed.{Placed}
use Rattle.replay_state.specs.declared.place.Placed.TheVariants.{Hall, Room}
use Rattle.replay_state.specs.declared.place.Happening.{Happening}
use Rattle.replay_state.specs.declared.place.Happening.TheVariants.{Entry, Ended}
use Rattle.replay_state.specs.Setup.{Setup}
use Rattle.replay_state.specs.Nows.{Now, record_at}
use Rattle.replay_state.specs.Worlds.{Place, place_of, World, world_after, world_message, room_id}
use Rattle.replay_state.specs.Entries.{State, idle, quits, text_entry, report_of, ending_at, reports, entry_happenings, session_of, is_open, sent_by, Run, state_of, run_opening, line_in, run_after}
use Rattle.replay_state.specs.Transcript.{Message, message_if, messages_to, Sign, told, over, signs_from, signs_in, signs}
use Rattle.replay_state.proofs.ReadLemmas.{passed_second}
use Rattle.replay_state.proofs.CountLemmas.{opens_next, sends_open, sent_sessions, closed_sessions, open_sessions, count_next}
use Rattle.replay_read.proofs.SoLemmas.{AreSo, so_append}

-- ---- signs

abbrev pub IsUnder : ℕ → Sign → Type 0
IsUnder most (told m) = m.conn ≤ most
IsUnder most (over conn) = conn ≤ most

-- each is for a connection with such a number
abbrev pub AreUnder : ℕ → List Sign → Type 0
AreUnder most xs = AreSo (IsUnder most) xs

message_under : (most conn : ℕ) (place : Place) (id : Option (List ℕ)) (ls : List (List ℕ)) → conn ≤ most → AreUnder most (map told (message_if conn place id ls))
message_under most conn place id [] le = tt
message_under most conn place id (line ∷ ls) le = (le, tt)

told_append : (most : ℕ) (xs ys : List Message) → AreUnder most (map told xs) → AreUnder most (map told ys) → AreUnder most (map told (xs ++ ys))
told_append most [] ys a b = b
told_append most (x ∷ xs) ys a b = (a.0, told_append most xs ys a.1 b)

messages_under : (most n : ℕ) (w : World) (p : Placed) → n ≤ most → AreUnder most (map told (messages_to n w p))
messages_under most zero w p le = tt
messages_under most (suc n) w p le =
    told_append most (messages_to n w p) (message_if (suc n) (place_of p) (room_id w p) (world_message (suc n) w p))
    (messages_under most n w p (omega (arith, le)))
    (message_under most (suc n) (place_of p) (room_id w p) (world_message (suc n) w p) le)

-- ---- happenings

-- a session that ends has such a number
abbrev EndsUnder : ℕ → Happening → Type 0
EndsUnder most (Entry p) = Unit {0}
EndsUnder most (Ended conn) = conn ≤ most

signs_under : (most n : ℕ) (w : World) (xs : List Happening) → n ≤ most → AreSo (EndsUnder most) xs → AreUnder most (signs_from n w xs)
signs_under most n w [] le a = tt
signs_under most n w (Entry p ∷ xs) le a =
    so_append (IsUnder most) (map told (messages_to n w p)) (signs_from n (world_after w p) xs)
    (messages_under most n w p le)
    (signs_under most n (world_after w p) xs le a.1)
signs_under most n w (Ended conn ∷ xs) le a = (a.0, signs_under most n w xs le a.1)

entries_end : (most : ℕ) (ps : List Placed) → AreSo (EndsUnder most) (map Entry ps)
entries_end most [] = tt
entries_end most (p ∷ ps) = (tt, entries_end most ps)

report_ends : (most moment conn : ℕ) (o : Option Ending) → AreSo (EndsUnder most) (report_of moment conn o)
report_ends most moment conn None = tt
report_ends most moment conn (Some end) = (tt, tt)

reports_end : (most moment : ℕ) (n : Now) (conn : ℕ) (p : Placed) → AreSo (EndsUnder most) (reports moment n conn p)
reports_end most moment n conn (Hall e) = tt
reports_end most moment n conn (Room number e) = report_ends most moment conn (ending_at (record_at number n) e)

module _ (most : ℕ) (s : State) (conn : ℕ) (le : conn ≤ most) where
  entry_ends : (o : Option Placed) → AreSo (EndsUnder most) (entry_happenings s.moment s.now conn o)
  entry_ends None = so_append (EndsUnder most) (map Entry (quits s.moment s.now conn)) (Ended conn ∷ []) (entries_end most (quits s.moment s.now conn)) (le, tt)
  entry_ends (Some p) = (tt, reports_end most s.moment s.now conn p)

  session_ends : (text : List ℕ) (o : Option Session) → AreSo (EndsUnder most) (sent_by s conn text o).happenings
  session_ends text None = tt
  session_ends text (Some session) = entry_ends (text_entry s.moment s.now conn text session)

  sent_ends : (text : List ℕ) (online : Bool) → AreSo (EndsUnder most) (cond online (sent_by s conn text (session_of conn s.sessions)) (idle s.sessions)).happenings
  sent_ends text true = session_ends text (session_of conn s.sessions)
  sent_ends text false = tt

closed_ends : (most : ℕ) (s : State) (conn : ℕ) (online : Bool) → AreSo (EndsUnder most) (cond online (record { happenings = map Entry (quits s.moment s.now conn); sessions = s.sessions }) (idle s.sessions)).happenings
closed_ends most s conn true = entries_end most (quits s.moment s.now conn)
closed_ends most s conn false = tt

-- ---- lines

opens_few : (s : Seen) (n : ℕ) → fault_of s (Open n) ≡ None → n ≤ 1024
opens_few s n e = let t = passed_second (n == length s.opened + 1) (nat_le n 1024) _ _ e in grind (arith, nat_tests)

module _ (s : Seen) (r : Run) (same : length s.opened ≡ length r.sessions) (few : length r.sessions ≤ 1024) where
  sessions_few : (i : Item) → fault_of s i ≡ None → length (line_in r i).sessions ≤ 1024
  sessions_few Nothing e = few
  sessions_few (Moment n) e = few
  sessions_few (Group symbol id) e = few
  sessions_few (Open conn) e = omega (arith, open_sessions (state_of r) conn, opens_next s conn e, opens_few s conn e, same)
  sessions_few (Send conn text) e = omega (arith, sent_sessions (state_of r) conn text, few)
  sessions_few (Close conn) e = omega (arith, closed_sessions (state_of r) conn, few)

  ends_few : (i : Item) → fault_of s i ≡ None → AreSo (EndsUnder 1024) (line_in r i).happenings
  ends_few Nothing e = tt
  ends_few (Moment n) e = tt
  ends_few (Group symbol id) e = tt
  ends_few (Open conn) e = (tt, tt)
  ends_few (Send conn text) e = let within = sends_open s conn text e in sent_ends 1024 (state_of r) conn (omega (arith, within.1, same, few)) text (is_open conn (state_of r).now)
  ends_few (Close conn) e = closed_ends 1024 (state_of r) conn (is_open conn (state_of r).now)

lines_few : (s : Seen) (r : Run) (ls : List (List ℕ)) (is : List Item) → AreItems s ls is → length s.opened ≡ length r.sessions → length r.sessions ≤ 1024 → AreUnder 1024 (signs_in r is)
lines_few s r [] [] a same few = tt
lines_few s r [] (i ∷ is) a same few = absurd a
lines_few s r (line ∷ ls) [] a same few = absurd a
lines_few s r (line ∷ ls) (i ∷ is) a same few =
    let more = sessions_few s r same few i a.1 in
    so_append (IsUnder 1024) (signs_from (length (line_in r i).sessions) r.world (line_in r i).happenings) (signs_in (run_after r i) is)
    (signs_under 1024 (length (line_in r i).sessions) r.world (line_in r i).happenings more (ends_few s r same few i a.1))
    (lines_few (next s i) (run_after r i) ls is a.2 (count_next s r i same) more)

-- no connection of a script has a larger number
pub signs_few : (s : Setup) (symbols bytes : List ℕ) (items : List Item) → IsScript symbols bytes items → AreUnder 1024 (signs s items)
signs_few s symbols bytes items script = lines_few (start symbols) (run_opening s) (lines bytes) items script refl (omega arith)
