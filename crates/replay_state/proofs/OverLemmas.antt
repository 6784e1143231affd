-- A connection that a script holds open is open in the hall, until its session was ended.
use Rattle.std.proofs.Common.{◌≡◌, ◌≢◌, ℕ, zero, suc, ◌-◌, ◌==◌, Bool, true, false, cond, List, [], ◌∷◌, ◌++◌, length, map, Option, Some, None, IfSome, ◌⊎◌, inl, inr, refl, sym, ap, ◌∙◌, subst, arith, append_assoc}
use Rattle.std.specs.Prelude.{slice_get, slice_set, nat_le, nat_lt}
use Rattle.std.specs.List.{list_any}
use Rattle.std.proofs.lemmas.Bool.Decides.{eqb_tells}
use Rattle.std.proofs.lemmas.List.{append-nil}
use Rattle.std.proofs.lemmas.List.Folds.{list_any-append}
use Rattle.ps_base.specs.Limits.{most_text}
use Rattle.std.proofs.lemmas.Bool.{or_left, or_right}
use Rattle.ps_lines.specs.declared.command.HallCmd.{HallCmd}
use Rattle.ps_lines.specs.declared.command.HallCmd.TheVariants as hall_commands
use Rattle.rules_start.specs.declared.start.Start.{Start}
use Rattle.ps_users.specs.Seats.{is_seat}
use Rattle.ps_session.specs.Sessions.{Record as Session}
use Rattle.ps_hall.specs.declared.entry.HallEntry.{HallEntry}
use Rattle.ps_hall.specs.Records.{Record as HallRecord}
use Rattle.ps_room.specs.declared.entry.Entry.{Entry}
use Rattle.replay_script.specs.declared.item.Item.{Item}
use Rattle.replay_script.specs.declared.item.Item.TheVariants.{Nothing, Moment, Group, Open, Send, Close}
use Rattle.replay_script.specs.Scripts.{Seen, start, fault_of, next, AreItems}
use Rattle.replay_script.specs.Scripts as scripts
use Rattle.replay_state.specs.declared.place.Placed.{Placed}
use Rattle.replay_state.specs.declared.place.Placed.TheVariants.{Hall, Room}
use Rattle.replay_state.specs.declared.place.Happening.{Happening}
use Rattle.replay_state.specs.declared.place.Happening.TheVariants as happening
use Rattle.ps_room.specs.Openings.{first_battle}
use Rattle.replay_state.specs.Setup.{Setup}
use Rattle.replay_state.specs.Worlds.{World, hall_in, with_battle, started_by, with_hall, world_after}
use Rattle.replay_state.specs.Nows.{Now, now_of}
use Rattle.replay_state.specs.Entries.{quits, ended, text_entry, reports, entry_happenings, session_of, is_open, idle, opening, sent_by, sent, closed, Run, state_of, run_opening, entries_in, worlds_after, line_in, run_after, run_past, happenings_from}
use Rattle.replay_state.specs.OneEntry.{is_end_of}
use Rattle.replay_state.proofs.CountLemmas.{passed, flag_some, opens_next}
use Rattle.replay_state.proofs.HallLemmas.{Spares, seat_after, seat_opened}
use Rattle.replay_state.proofs.HistoryLemmas.{hall_more}
use Rattle.replay_state.proofs.LineLemmas.{AllOf, entries_of_entries, entries_of_ended, quits_all, text_some, reports_all}
use Rattle.replay_state.proofs.RouteLemmas.{IsAsked}
use Rattle.replay_state.proofs.ViewLemmas.{after_if}

-- ---- lists of flags

abbrev IsOn : List Bool → ℕ → Type 0
IsOn flags k = slice_get flags k ≡ Some true

-- what was closed isn't on
set_off : (flags : List Bool) (k : ℕ) → IsOn (slice_set flags k false) k → ⊥
set_off [] k on = cc
set_off (b ∷ bs) zero on = cc
set_off (b ∷ bs) (suc k) on = set_off bs k on

set_from : (flags : List Bool) (i k : ℕ) → k ≢ i → IsOn (slice_set flags i false) k → IsOn flags k
set_from [] i k other on = on
set_from (x ∷ xs) zero zero other on = absurd (other refl)
set_from (x ∷ xs) zero (suc k) other on = on
set_from (x ∷ xs) (suc i) zero other on = on
set_from (x ∷ xs) (suc i) (suc k) other on = set_from xs i k (λ e. other (ap suc e)) on

-- what is on behind a push was on before, or is the new one
pushed : (flags : List Bool) (k : ℕ) → IsOn (flags ++ true ∷ []) k → IsOn flags k ⊎ (k ≡ length flags)
pushed [] zero on = inr refl
pushed [] (suc k) on = absurd cc
pushed (b ∷ bs) zero on = inl on
pushed (b ∷ bs) (suc k) on = elim (pushed bs k on) [
  | inl old ↦ inl old
  | inr new ↦ inr (ap suc new)
]

-- ---- who is open in a world

abbrev IsOpen : ℕ → World → Type 0
IsOpen k w = is_open k (now_of w) ≡ true

-- the entry closes no such connection
abbrev SparesIn : ℕ → Placed → Type 0
SparesIn k (Hall e) = Spares e.conn e.cmd k
SparesIn k (Room number e) = Unit {0}

begun_hall : (h : HallRecord) (o : Option Start) (w : World) → hall_in (with_battle h o w) ≡ hall_in w
begun_hall h None w = refl
begun_hall h (Some start) w = refl

room_hall : (w : World) (number : ℕ) (e : Entry) (b : Bool) → hall_in (after_if w number e b) ≡ hall_in w
room_hall w number e true = refl
room_hall w number e false = refl

seat_kept : (w : World) (p : Placed) (k : ℕ) → SparesIn k p → IsOpen k w → IsOpen k (world_after w p)
seat_kept w (Hall e) k spares is = ap (λ (h : HallRecord). is_seat h.users.seats k) (begun_hall (hall_in w) (started_by (hall_in w) e) (with_hall w e) ∙ hall_more w e) ∙ seat_after (hall_in w) e k spares is
seat_kept w (Room number e) k spares is = ap (λ (h : HallRecord). is_seat h.users.seats k) (room_hall w number e (nat_lt number first_battle)) ∙ is

seats_kept : (w : World) (ps : List Placed) (k : ℕ) → AllOf (SparesIn k) ps → IsOpen k w → IsOpen k (worlds_after w ps)
seats_kept w [] k all is = is
seats_kept w (p ∷ ps) k all is = seats_kept (world_after w p) ps k all.1 (seat_kept w p k all.0 is)

seat_new : (w : World) (moment conn : ℕ) → IsOpen conn (worlds_after w (entries_in (opening moment conn ∷ [])))
seat_new w moment conn =
    let e : HallEntry = record { conn = conn; moment = moment; cmd = hall_commands.Open } in
    ap (λ (h : HallRecord). is_seat h.users.seats conn) (begun_hall (hall_in w) (started_by (hall_in w) e) (with_hall w e) ∙ hall_more w e) ∙ seat_opened (hall_in w) conn moment

-- ---- a text closes nobody

spares_asked : (conn k : ℕ) (cmd : HallCmd) → IsAsked cmd → Spares conn cmd k
spares_asked conn k hall_commands.Quit a = absurd a
spares_asked conn k other a = tt

spares_text : (moment : ℕ) (n : Now) (conn k : ℕ) (text : List ℕ) (s : Session) → IfSome (text_entry moment n conn text s) (SparesIn k)
spares_text moment n conn k text s = text_some (SparesIn k) moment n conn (spares_asked conn k) (λ id number badge cmd is. tt) text s

-- ---- whose session was ended

abbrev was_ended : ℕ → List Happening → Bool
was_ended conn xs = list_any (is_end_of conn) xs

still_ended : (conn : ℕ) (xs ys : List Happening) → was_ended conn xs ≡ true → was_ended conn (xs ++ ys) ≡ true
still_ended conn xs ys e = list_any-append (is_end_of conn) xs ys ∙ or_left (was_ended conn xs) (was_ended conn ys) e

now_ended : (conn : ℕ) (xs ys : List Happening) → was_ended conn ys ≡ true → was_ended conn (xs ++ ys) ≡ true
now_ended conn xs ys e = list_any-append (is_end_of conn) xs ys ∙ or_right (was_ended conn xs) (was_ended conn ys) e

ends_self : (moment : ℕ) (n : Now) (conn k : ℕ) → (conn == k) ≡ true → was_ended k (ended moment n conn) ≡ true
ends_self moment n conn k e = now_ended k (map happening.Entry (quits moment n conn)) (happening.Ended conn ∷ []) (or_left (conn == k) false e)

-- ---- after a line

-- a connection is open after these happenings, or its session was ended in them
abbrev IsLive : World → List Happening → ℕ → Type 0
IsLive w ys k = IsOpen k (worlds_after w (entries_in ys)) ⊎ (was_ended k ys ≡ true)

spares_quits : (moment : ℕ) (n : Now) (conn k : ℕ) → k ≢ conn → AllOf (SparesIn k) (quits moment n conn)
spares_quits moment n conn k other = quits_all (SparesIn k) moment n conn (λ badge i lt. tt) (λ badge i lt. tt) other

live_ended : (w : World) (moment conn k : ℕ) → IsOpen k w → IsLive w (ended moment (now_of w) conn) k
live_ended w moment conn k is = elim (eqb_tells conn k) [
  | inl same ↦ inr (ends_self moment (now_of w) conn k same.0)
  | inr apart ↦ inl (subst (λ (x : List Placed). IsOpen k (worlds_after w x)) (sym (entries_of_ended moment (now_of w) conn)) (seats_kept w (quits moment (now_of w) conn) k (spares_quits moment (now_of w) conn k (λ e. apart.1 (sym e))) is))
]

live_entry : (w : World) (moment conn k : ℕ) (o : Option Placed) → IfSome o (SparesIn k) → IsOpen k w → IsLive w (entry_happenings moment (now_of w) conn o) k
live_entry w moment conn k None spares is = live_ended w moment conn k is
live_entry w moment conn k (Some p) spares is = inl (seats_kept w (p ∷ entries_in (reports moment (now_of w) conn p)) k (spares, reports_all (SparesIn k) moment (now_of w) conn (λ number winner. tt) p) is)

live_session : (r : Run) (conn k : ℕ) (text : List ℕ) (o : Option Session) → IsOpen k r.world → IsLive r.world (sent_by (state_of r) conn text o).happenings k
live_session r conn k text None is = inl is
live_session r conn k text (Some s) is = live_entry r.world r.moment conn k (text_entry r.moment (now_of r.world) conn text s) (spares_text r.moment (now_of r.world) conn k text s) is

live_sent : (r : Run) (conn k : ℕ) (text : List ℕ) (b : Bool) → IsOpen k r.world → IsLive r.world (cond b (sent_by (state_of r) conn text (session_of conn r.sessions)) (idle r.sessions)).happenings k
live_sent r conn k text true is = live_session r conn k text (session_of conn r.sessions) is
live_sent r conn k text false is = inl is

live_closed : (r : Run) (conn k : ℕ) (b : Bool) → k ≢ conn → IsOpen k r.world → IsLive r.world (cond b (record { happenings = map happening.Entry (quits r.moment (now_of r.world) conn); sessions = r.sessions }) (idle r.sessions)).happenings k
live_closed r conn k true other is = inl (subst (λ (x : List Placed). IsOpen k (worlds_after r.world x)) (sym (entries_of_entries (quits r.moment (now_of r.world) conn))) (seats_kept r.world (quits r.moment (now_of r.world) conn) k (spares_quits r.moment (now_of r.world) conn k other) is))
live_closed r conn k false other is = inl is

-- ---- the lines of a script

-- each connection that a script holds open is open in the hall, or its session was ended
abbrev AreLive : Seen → World → List Happening → Type 0
AreLive s w xs = (k : ℕ) → IsOn s.opened k → IsOpen (suc k) w ⊎ (was_ended (suc k) xs ≡ true)

-- one more line
live_then : (w : World) (xs ys : List Happening) (k : ℕ) → IsLive w ys k → IsOpen k (worlds_after w (entries_in ys)) ⊎ (was_ended k (xs ++ ys) ≡ true)
live_then w xs ys k live = elim live [
  | inl there ↦ inl there
  | inr over ↦ inr (now_ended k xs ys over)
]

live_more : (w : World) (xs ys : List Happening) (k : ℕ) → (IsOpen k w → IsLive w ys k) → IsOpen k w ⊎ (was_ended k xs ≡ true) → IsOpen k (worlds_after w (entries_in ys)) ⊎ (was_ended k (xs ++ ys) ≡ true)
live_more w xs ys k keep before = elim before [
  | inl there ↦ live_then w xs ys k (keep there)
  | inr over ↦ inr (still_ended k xs ys over)
]

line_live : (s : Seen) (r : Run) (xs : List Happening) (i : Item) → fault_of s i ≡ None → AreLive s r.world xs → AreLive (next s i) (run_after r i).world (xs ++ (line_in r i).happenings)
line_live s r xs Nothing right live = λ k on. live_more r.world xs [] (suc k) inl (live k on)
line_live s r xs (Moment n) right live = λ k on. live_more r.world xs [] (suc k) inl (live k on)
line_live s r xs (Group symbol id) right live = λ k on. live_more r.world xs [] (suc k) inl (live k on)
line_live s r xs (Open n) right live = λ k on. elim (pushed s.opened k on) [
  | inl old ↦ live_more r.world xs (opening r.moment n ∷ []) (suc k) (λ there. inl (seats_kept r.world (entries_in (opening r.moment n ∷ [])) (suc k) (tt, tt) there)) (live k old)
  | inr new ↦
      let number : n ≡ suc k = omega (arith, new, opens_next s n right) in
      inl (subst (λ (x : ℕ). IsOpen x (worlds_after r.world (entries_in (opening r.moment n ∷ [])))) number (seat_new r.world r.moment n))
]
line_live s r xs (Send n text) right live = λ k on.
    live_more r.world xs (sent (state_of r) n text).happenings (suc k) (live_sent r n (suc k) text (is_open n (now_of r.world))) (live k on)
line_live s r xs (Close n) right live = λ k on.
    let apart : k ≢ n - 1 = λ is. set_off s.opened k (subst (λ (j : ℕ). IsOn (slice_set s.opened j false) k) (sym is) on) in
    let other : suc k ≢ n = λ is. apart (omega (arith, is)) in
    live_more r.world xs (closed (state_of r) n).happenings (suc k) (live_closed r n (suc k) (is_open n (now_of r.world)) other) (live k (set_from s.opened (n - 1) k apart on))

-- of a connection that the script holds open
closed_there : (s : Seen) (w : World) (xs : List Happening) (conn : ℕ) → AreLive s w xs → scripts.is_open s.opened conn ≡ true → is_open conn (now_of w) ≡ false → was_ended conn xs ≡ true
closed_there s w xs zero live flag shut = absurd cc
closed_there s w xs (suc k) live flag shut = elim (live k (flag_some (slice_get s.opened k) flag)) [
  | inl there ↦ (let both : true ≡ false = sym there ∙ shut in absurd cc)
  | inr over ↦ over
]

sends_flag : (s : Seen) (conn : ℕ) (text : List ℕ) → fault_of s (Send conn text) ≡ None → scripts.is_open s.opened conn ≡ true
sends_flag s conn text e = passed (scripts.is_open s.opened conn) (nat_le (length text) most_text) _ _ e

over_from : (s : Seen) (r : Run) (xs : List Happening) (ls : List (List ℕ)) (before : List Item) (conn : ℕ) (text : List ℕ) (later : List Item) → AreItems s ls (before ++ Send conn text ∷ later) → AreLive s r.world xs
    → is_open conn (now_of (run_past r before).world) ≡ false → was_ended conn (xs ++ happenings_from r before) ≡ true
over_from s r xs [] [] conn text later a live shut = absurd a
over_from s r xs (l ∷ ls) [] conn text later a live shut = subst (λ (x : List Happening). was_ended conn x ≡ true) (sym (append-nil xs)) (closed_there s r.world xs conn live (sends_flag s conn text a.1) shut)
over_from s r xs [] (i ∷ before) conn text later a live shut = absurd a
over_from s r xs (l ∷ ls) (i ∷ before) conn text later a live shut =
    let ys = (line_in r i).happenings in
    subst (λ (x : List Happening). was_ended conn x ≡ true) (append_assoc xs ys (happenings_from (run_after r i) before))
    (over_from (next s i) (run_after r i) (xs ++ ys) ls before conn text later a.2 (line_live s r xs i a.1 live) shut)

-- who sends a text and isn't open had its session ended before
pub over : (s : Setup) (symbols : List ℕ) (ls : List (List ℕ)) (before : List Item) (conn : ℕ) (text : List ℕ) (later : List Item) → AreItems (start symbols) ls (before ++ Send conn text ∷ later)
    → is_open conn (now_of (run_past (run_opening s) before).world) ≡ false → list_any (is_end_of conn) (happenings_from (run_opening s) before) ≡ true
over s symbols ls before conn text later a shut = over_from (start symbols) (run_opening s) [] ls before conn text later a (λ k on. absurd cc) shut
